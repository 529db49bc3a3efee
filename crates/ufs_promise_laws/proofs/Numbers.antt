-- Which files are live behind a request of the names, and which inodes they have.
use Rattle.std.proofs.Common.{◌≡◌, ◌≢◌, ℕ, ◌+◌, ◌<◌, ◌≤◌, ◌⊎◌, inl, inr, List, Bool, true, false, ◌||◌, ◌&&◌, eqb, Option, Some, None, is_some, length, ap, sym, refl, ◌∙◌, subst, arith}
use Rattle.std.specs.Prelude.{IsSome}
use Rattle.std.specs.Option.{option_map}
use Rattle.std.specs.FinMap as map
use Rattle.std.proofs.lemmas.Bool.{eq-eqb}
use Rattle.ufs_bitmap.specs.Blocks.{BlockSet}
use Rattle.ufs_dir_tree.specs.Steps.{Step}
use Rattle.ufs_file.specs.Hand.{FileState}
use Rattle.ufs_files.proofs.MapLemmas.{one_or_apart}
use Rattle.ufs_image.specs.Catalog.{IsInode}
use Rattle.ufs_layout.specs.declared.geometry.Geometry.{Geometry}
use Rattle.ufs_ledger.specs.Kept.{Numbers}
use Rattle.ufs_model.specs.PosixTree.{PosixTree}
use Rattle.ufs_model.proofs.Facts.Lookups.{from_some, same_some, there_or_not}
use Rattle.ufs_name_tree.specs.NameTable.{file_at}
use Rattle.ufs_name_tree.specs.Notes.{GoesNoted, is_touched}
use Rattle.ufs_names.specs.declared.holding.Holding.{Holding}
use Rattle.ufs_promise_laws.specs.PathNumbers.{numbers_of}
use Rattle.ufs_promise_laws.specs.Laws.{KeepsNumbers}
use Rattle.ufs_promise_laws.specs.Parts.{Parts}
use Rattle.ufs_promise_laws.specs.Stored.{ArePartsOf}
use Rattle.ufs_promise_laws.specs.Requests.{IsNamesRequest}

none_off : {A : Type 0} (o : Option A) → o ≡ None → is_some o ≡ true → ⊥
none_off o none some = let no = sym (ap is_some none) ∙ some in cc

some_or_none : {A : Type 0} (o : Option A) → (is_some o ≡ false) → o ≡ None
some_or_none None off = refl
some_or_none (Some x) off = absurd cc

module _ (t u : PosixTree) (p next : Parts) (lent left : BlockSet) (r : IsNamesRequest t u p next lent left) where
  -- ---- live files

  -- A file that was not live and is so now has the next number.
  pub born_next : (f : ℕ) → map.get p.names.held f ≡ None → IsSome (map.get next.names.held f) → f ≡ t.next
  born_next f none live = by (one_or_apart f t.next)
    where
      dead : is_some (map.get t.bytes f) ≡ false
      dead = sym (r.before.names.told f) ∙ ap is_some none

      absent : ((s : FileState) × (map.get p.files f ≡ Some s)) ⊎ (map.get p.files f ≡ None) → map.get p.files f ≡ None
      absent (inl at) = (let of = r.before.files f at.0 at.1 in let some : is_some (map.get t.bytes f) ≡ true = ap (λ (k : ℕ). is_some (map.get t.bytes k)) (sym of.0) ∙ ap is_some of.1.has in let no = sym some ∙ dead in absurd cc)
      absent (inr off) = off

      by : (f ≡ t.next) ⊎ (f ≢ t.next) → f ≡ t.next
      by (inl is) = is
      by (inr not) =
          let still = r.go_on.others f (absent (there_or_not (map.get p.files f))) not in
          let some = sym (r.after.told f) ∙ live in
          let no = sym some ∙ ap is_some still ∙ dead in absurd cc

  both : (a b c : Bool) → (a ≡ true) ⊎ (b ≡ true) → c ≡ true → ((a || b) && c) ≡ true
  both true b true one live = refl
  both false true true one live = refl
  both false false true (inl off) live = absurd cc
  both false false true (inr off) live = absurd cc
  both a b false one dead = absurd cc

  -- Each live file is here.
  pub here_now : (f : ℕ) → IsSome (map.get next.names.held f) → IsSome (map.get next.files f)
  here_now f live = r.go_on.here f ∙ both (is_some (map.get p.files f)) (eqb f t.next) (is_some (map.get u.bytes f)) (by (there_or_not (map.get p.names.held f))) (sym (r.after.told f) ∙ live)
    where
      by : ((h : Holding) × (map.get p.names.held f ≡ Some h)) ⊎ (map.get p.names.held f ≡ None) → (is_some (map.get p.files f) ≡ true) ⊎ (eqb f t.next ≡ true)
      by (inl at) = inl (r.before.here f (ap is_some at.1))
      by (inr none) = inr (eq-eqb f t.next (born_next f none live))

  pub parts_now : ArePartsOf next u
  parts_now = record { names = r.after; files = r.files; inodes = r.inodes; here = here_now }

  -- ---- a file that is here

  module _ (f : ℕ) (s : FileState) (here : map.get next.files f ≡ Some s) where
    live : IsSome (map.get next.names.held f)
    live = let of = r.files f s here in r.after.told f ∙ ap (λ (k : ℕ). is_some (map.get u.bytes k)) (sym of.0) ∙ ap is_some of.1.has

    -- its inode is one of the table's
    pub in_table : (1 ≤ s.inode) × (s.inode < length next.names.tree.dirs.dirs)
    in_table =
        let h = from_some (map.get next.names.held f) live in
        let same : s.inode ≡ h.0.inode = r.inodes f s h.0 here h.1 in
        let used = r.table.used h.0.inode f (r.after.inodes.inode f h.0 h.1) in
        let from = used.from_one in let within = used.within in
        (omega (arith, from, same), omega (arith, within, same))

  -- ---- numbers

  module _ (numbers : Numbers) (unborn : (f : ℕ) → t.next ≤ f → numbers.inode f ≡ None) where
    -- a new file has no inode on the disk
    pub none_yet : (f : ℕ) → f ≡ t.next → numbers.inode f ≡ None
    none_yet f is = unborn f (omega (arith, is))

    module _ (go : GoesNoted p.names.tree next.names.tree lent) where
      old_number : (f : ℕ) (h k : Holding) → map.get p.names.held f ≡ Some h → map.get next.names.held f ≡ Some k → k.inode ≡ h.inode
      old_number f h k was is = go.stayed k.inode h.inode f (r.before.names.inodes.inode f h was) (r.after.inodes.inode f k is)

      number_is : (h : Holding) (f inode : ℕ) (held : Parts) → map.get held.names.held f ≡ Some h → (numbers_of held.names).inode f ≡ Some inode → inode ≡ h.inode
      number_is h f inode held at of = same_some inode h.inode (sym of ∙ ap (option_map (λ (h : Holding). h.inode)) at)

      pub keeps_numbers : KeepsNumbers numbers p.names next.names go.steps
      keeps_numbers = record { each = λ f is. each f (from_some (map.get next.names.held f) is) (there_or_not (map.get p.names.held f)) }
        where
          each : (f : ℕ) → (k : Holding) × (map.get next.names.held f ≡ Some k) → ((h : Holding) × (map.get p.names.held f ≡ Some h)) ⊎ (map.get p.names.held f ≡ None)
              → (IsSome (map.get p.names.held f) × ((numbers_of next.names).inode f ≡ (numbers_of p.names).inode f) × ((inode : ℕ) → (numbers_of p.names).inode f ≡ Some inode → is_touched go.steps inode ≡ false))
              ⊎ ((numbers.inode f ≡ None) × ((inode : ℕ) → (numbers_of next.names).inode f ≡ Some inode → is_touched go.steps inode ≡ true))
          each f k (inl h) =
              let same = old_number f h.0 k.0 h.1 k.1 in
              inl (
                ap is_some h.1,
                ap (option_map (λ (h : Holding). h.inode)) k.1 ∙ ap Some same ∙ sym (ap (option_map (λ (h : Holding). h.inode)) h.1),
                λ inode of.
                    let is = number_is h.0 f inode p h.1 of in
                    subst (λ (i : ℕ). is_touched go.steps i ≡ false) (sym is)
                    (go.kept h.0.inode f (r.before.names.inodes.inode f h.0 h.1) (subst (λ (i : ℕ). file_at next.names.tree i ≡ Some f) same (r.after.inodes.inode f k.0 k.1))),
              )
          each f k (inr none) =
              let new = born_next f none (ap is_some k.1) in
              inr (
                none_yet f new,
                λ inode of.
                    let is = number_is k.0 f inode next k.1 of in
                    subst (λ (i : ℕ). is_touched go.steps i ≡ true) (sym is)
                    (go.given k.0.inode f (λ j at. none_off (map.get p.names.held f) none (r.before.names.inodes.live j f at)) (r.after.inodes.inode f k.0 k.1)),
              )
