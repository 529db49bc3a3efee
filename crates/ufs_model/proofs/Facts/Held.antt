-- Which client holds which file: told by the files of its descriptors.
use Rattle.std.proofs.Common.{◌≡◌, ◌≢◌, ℕ, true, cond, ◌&&◌, eqb, Option, Some, None, ap, sym, refl, ◌∙◌, subst}
use Rattle.std.proofs.lemmas.Bool.{and_parts, and_from, eqb-true, eq-eqb}
use Rattle.std.specs.declared.cmp.Ordering.{Ordering}
use Rattle.std.specs.declared.cmp.Ordering.TheVariants.{Less, Equal, Greater}
use Rattle.std.specs.Option.{option_map}
use Rattle.std.specs.Ordering.{is_eq}
use Rattle.std.specs.Cmp.{both_ways}
use Rattle.std.specs.List.{list_any}
use Rattle.std.specs.FinMap as fin
use Rattle.std.specs.FinMap.{get-insert}
use Rattle.ufs_model.specs.PosixTree.{Fds, is_desc_of, is_number}
use Rattle.ufs_model.specs.Order.{fd_cmp}
use Rattle.ufs_model.specs.Touched.{holds}
use Rattle.ufs_model.specs.declared.data.Desc.{Desc}
use Rattle.ufs_model.proofs.Facts.Orders.{fd_total, fd_same}
use Rattle.ufs_model.proofs.Facts.Lookups.{entry_passes, from_entry_passes, passes, from_passes, inserted_else, removed_else}

-- ---- who holds a file

-- the file of a descriptor
abbrev pub file_at : Fds → ℕ → ℕ → Option (Option ℕ)
file_at fds client fd = option_map (λ (d : Desc). d.file) (fin.get fds (client, fd))

-- one of the client's descriptors, of the file
abbrev pub Holder : Fds → ℕ → ℕ → Type 0
Holder fds client file = (fd : ℕ) × (d : Desc) × (fin.get fds (client, fd) ≡ Some d) × (is_desc_of file d ≡ true)

pub holder : (fds : Fds) (client file : ℕ) → holds fds client file ≡ true → Holder fds client file
holder fds client file is =
    let w = entry_passes fd_total fd_same (λ e. eqb e.0.0 client && is_desc_of file e.1) fds is in
    let both = and_parts (eqb w.0.0 client) (is_desc_of file w.1) w.3 in
    let own : w.0.0 ≡ client = eqb-true w.0.0 client both.0 in
    (w.0.1, w.1, subst (λ (c : ℕ). fin.get fds (c, w.0.1) ≡ Some w.1) own w.2, both.1)

pub held : (fds : Fds) (client file fd : ℕ) (d : Desc) → fin.get fds (client, fd) ≡ Some d → is_desc_of file d ≡ true → holds fds client file ≡ true
held fds client file fd d there is =
    from_entry_passes fd_total fd_same (λ e. eqb e.0.0 client && is_desc_of file e.1) fds
    ((client, fd), d, there, and_from (eqb client client) (is_desc_of file d) (eq-eqb client client refl) is)

pub one_way : (a b : Fds) (client file : ℕ) → ((fd : ℕ) → file_at a client fd ≡ file_at b client fd) → holds a client file ≡ true → holds b client file ≡ true
one_way a b client file same is =
    let w = holder a client file is in
    by_desc w.0 w.1 w.2 w.3 (fin.get b (client, w.0)) refl
  where
    by_desc : (fd : ℕ) (d : Desc) → fin.get a (client, fd) ≡ Some d → is_desc_of file d ≡ true → (o : Option Desc) → fin.get b (client, fd) ≡ o → holds b client file ≡ true
    by_desc fd d there of None none =
        let no : Some d.file ≡ None = sym (ap (option_map (λ (d : Desc). d.file)) there) ∙ same fd ∙ ap (option_map (λ (d : Desc). d.file)) none in
        cc
    by_desc fd d there of (Some d') there' =
        let files : Some d.file ≡ Some d'.file = sym (ap (option_map (λ (d : Desc). d.file)) there) ∙ same fd ∙ ap (option_map (λ (d : Desc). d.file)) there' in
        let file_is : d.file ≡ d'.file = cc in
        held b client file fd d' there' (ap (is_number file) (sym file_is) ∙ of)

-- who holds a file is told by the files of the client's descriptors
pub holds_by : (a b : Fds) (client file : ℕ) → ((fd : ℕ) → file_at a client fd ≡ file_at b client fd) → holds a client file ≡ holds b client file
holds_by a b client file same = both_ways (holds a client file) (holds b client file) (one_way a b client file same) (one_way b a client file (λ fd. sym (same fd)))

pub open_way : (a b : Fds) (file : ℕ) → ((client : ℕ) → holds a client file ≡ true → holds b client file ≡ true) → list_any (is_desc_of file) (fin.values a) ≡ true → list_any (is_desc_of file) (fin.values b) ≡ true
open_way a b file same is =
    let w = passes fd_total fd_same (is_desc_of file) a is in
    let h = holder b w.0.0 file (same w.0.0 (held a w.0.0 file w.0.1 w.1 w.2 w.3)) in
    from_passes fd_total fd_same (is_desc_of file) b ((w.0.0, h.0), h.1, h.2, h.3)

-- whether a file is open at all is told by who holds it
pub open_by : (a b : Fds) (file : ℕ) → ((client : ℕ) → holds a client file ≡ holds b client file) → list_any (is_desc_of file) (fin.values a) ≡ list_any (is_desc_of file) (fin.values b)
open_by a b file same =
    both_ways (list_any (is_desc_of file) (fin.values a)) (list_any (is_desc_of file) (fin.values b))
    (open_way a b file (λ client is. sym (same client) ∙ is)) (open_way b a file (λ client is. same client ∙ is))

-- ---- descriptors that come, move and go

module _ (fds : Fds) (client fd : ℕ) where
  pub other_fd : (c n : ℕ) → c ≢ client → ◌≡◌ {A = ℕ × ℕ} (c, n) (client, fd) → ⊥
  other_fd c n ne is = ne (ap (λ (k : ℕ × ℕ). k.0) is)

  pub put_elsewhere : (d : Desc) (c n : ℕ) → c ≢ client → fin.get fds (c, n) ≡ fin.get (fin.insert fds (client, fd) d) (c, n)
  put_elsewhere d c n ne = sym (inserted_else fd_total fd_same fds (client, fd) d (c, n) (other_fd c n ne))

  pub gone_elsewhere : (c n : ℕ) → c ≢ client → fin.get fds (c, n) ≡ fin.get (fin.remove fds (client, fd)) (c, n)
  gone_elsewhere c n ne = sym (removed_else fd_total fd_same fds (client, fd) (c, n) (other_fd c n ne))

  -- a descriptor that moves on holds the same file
  pub moved_holds : (old d : Desc) → fin.get fds (client, fd) ≡ Some old → d.file ≡ old.file → (file : ℕ) → holds fds client file ≡ holds (fin.insert fds (client, fd) d) client file
  moved_holds old d there same file = holds_by fds (fin.insert fds (client, fd) d) client file
      (λ n. sym (ap (option_map (λ (d : Desc). d.file)) (get-insert fd_total fds (client, fd) d (client, n)) ∙ by_key n (fd_cmp (client, n) (client, fd)) refl))
    where
      by_key : (n : ℕ) (r : Ordering) → fd_cmp (client, n) (client, fd) ≡ r → option_map (λ (d : Desc). d.file) (cond (is_eq r) (Some d) (fin.get fds (client, n))) ≡ file_at fds client n
      by_key n Less e = refl
      by_key n Equal e =
          let key : ◌≡◌ {A = ℕ × ℕ} (client, n) (client, fd) = fd_same (client, n) (client, fd) e in
          let at : fin.get fds (client, n) ≡ Some old = ap (fin.get fds) key ∙ there in
          ap Some same ∙ sym (ap (option_map (λ (d : Desc). d.file)) at)
      by_key n Greater e = refl
