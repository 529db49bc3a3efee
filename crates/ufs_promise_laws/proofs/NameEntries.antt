-- The names' notes go on with a change.
use Rattle.std.proofs.Common.{◌≡◌, ◌≢◌, ℕ, ◌+◌, ◌⊎◌, ◌||◌, inl, inr, List, ◌++◌, Bool, true, false, Option, Some, None, is_some, length, ap, sym, refl, ◌∙◌, subst}
use Rattle.std.specs.Prelude.{IsSome}
use Rattle.std.specs.List.{slice_get}
use Rattle.std.specs.Option.{option_map}
use Rattle.std.specs.FinMap as map
use Rattle.std.specs.FinSet as set
use Rattle.std.proofs.lemmas.List.Folds.{list_any-append}
use Rattle.ufs_bitmap.specs.Blocks.{BlockSet}
use Rattle.ufs_bitmap.specs.Taking.{has}
use Rattle.ufs_bitmap.proofs.TakingLemmas.{has-append}
use Rattle.ufs_dir_tree.specs.DirTable.{DirTable, blocks_at, slots_at}
use Rattle.ufs_dir_tree.specs.Steps.{DirState, Step, after_all, table_after_all}
use Rattle.ufs_layout.specs.DentryForm.{DentryForm}
use Rattle.ufs_layout.specs.Superblock.{geometry_of}
use Rattle.ufs_layout.specs.declared.geometry.Geometry.{Geometry}
use Rattle.ufs_layout.specs.declared.records.LogRecord.{LogRecord}
use Rattle.ufs_ledger.specs.Kept.{Numbers}
use Rattle.ufs_ledger.specs.Ledger.{Ledger}
use Rattle.ufs_model.proofs.Facts.Lookups.{from_some, same_some}
use Rattle.ufs_promise_laws.specs.Files.{KeepsInode}
use Rattle.ufs_promise_laws.specs.Held.{HasName, HasSoundNames, MaySteps}
use Rattle.ufs_promise_laws.specs.ChangeLaws.{ChangesJoin}
use Rattle.ufs_promise_laws.specs.Noted.{NotedMayBeMade, NotesAreRecords, NotesLeadOn}
use Rattle.ufs_promise_laws.specs.Steps.{records_of}
use Rattle.ufs_name_tree.specs.NameTable.{file_at}
use Rattle.ufs_name_tree.specs.Notes.{AreKindsOf, GoesNoted, IsStateOf, is_of, is_touched}
use Rattle.ufs_name_tree.specs.Records as tables
use Rattle.ufs_names.specs.NamesPart.{AreInodesOf, NamesPart}
use Rattle.ufs_names.specs.declared.holding.Holding.{Holding}
use Rattle.ufs_promise_laws.specs.PathNumbers.{numbers_of}
use Rattle.ufs_promise_laws.specs.Laws.{KeepsNumbers}
use Rattle.ufs_promise_laws.specs.Stored.{AreNamesNoted, IsKnownBlock, with_fresh}
use Rattle.ufs_promise_laws.proofs.Blocks.{blocks_stay}
use Rattle.ufs_promise_laws.proofs.Fresh.{HasMore, after_more_all, may_more_all}

or_true : (a b : Bool) → b ≡ true → (a || b) ≡ true
or_true true b e = refl
or_true false b e = e

or_false : (a b : Bool) → a ≡ false → b ≡ false → (a || b) ≡ false
or_false a b e f = ap (λ (v : Bool). v || b) e ∙ f

module _ (l : Ledger) (numbers : Numbers) (fresh lent : List ℕ) (old new : NamesPart) (pool : BlockSet) (made : NotedMayBeMade (geometry_of l.superblock)) (told : NotesAreRecords) (lead : NotesLeadOn) (join : ChangesJoin (geometry_of l.superblock))
    (n : AreNamesNoted l numbers fresh old) (go : GoesNoted old.tree new.tree pool) (counted : length old.tree.dirs.dirs ≡ (geometry_of l.superblock).inodes + 1)
    (is_lent : (b : ℕ) → set.contains pool b ≡ true → has lent b ≡ true) (apart : (b : ℕ) → has lent b ≡ true → has fresh b ≡ false)
    (sound : (s : DirState) → IsStateOf old.tree pool s → HasSoundNames (geometry_of l.superblock) s → HasSoundNames (geometry_of l.superblock) (after_all go.steps s))
    (keeps : KeepsNumbers numbers old new go.steps) (was : AreInodesOf old.tree old.held) (is : AreInodesOf new.tree new.held) where
  abbrev g : Geometry
  g = geometry_of l.superblock

  abbrev xs : List Step
  xs = n.steps

  abbrev ys : List Step
  ys = go.steps

  abbrev s : DirState
  s = with_fresh fresh n.committed

  abbrev more : DirState
  more = with_fresh (fresh ++ lent) n.committed

  abbrev mid : DirState
  mid = after_all n.steps (with_fresh (fresh ++ lent) n.committed)

  has_more : HasMore (has lent) s more
  has_more = record {
    table = refl;
    kinds = refl;
    zeroed = λ b on. has-append fresh lent b ∙ ap (λ (v : Bool). v || has lent b) on;
    lent_off = apart;
    lent_on = λ b is. has-append fresh lent b ∙ or_true (has fresh b) (has lent b) is;
  }

  behind : HasMore (has lent) (after_all xs s) mid
  behind = after_more_all g (has lent) s more xs has_more n.may

  state : IsStateOf old.tree pool mid
  state = record {
    table = behind.table ∙ n.dirs;
    kinds = subst (AreKindsOf old.tree) (sym behind.kinds) n.kinds;
    zeroed = λ b is. behind.lent_on b (is_lent b is);
  }

  sound_mid : HasSoundNames g mid
  sound_mid = record {
    fit = λ dir place e at. let f = n.sound.fit dir place e (named dir place e at) in record { plain = f.plain; in_range = f.in_range; kind = ap (λ (k : ℕ → ℕ). k e.inode) behind.kinds ∙ f.kind; used = f.used; no_root = f.no_root };
    names_once = λ dir p q e f a b same. n.sound.names_once dir p q e f (named dir p e a) (named dir q f b) same;
    inodes_once = λ dir other p q e f a b same. n.sound.inodes_once dir other p q e f (named dir p e a) (named other q f b) same;
  }
    where
      named : (dir place : ℕ) (e : DentryForm) → HasName g mid dir place e → HasName g (after_all xs s) dir place e
      named dir place e at = record { in_range = at.in_range; there = sym (ap (λ (t : DirTable). slice_get (slots_at t dir) place) behind.table) ∙ at.there; named = at.named }

  may_then : MaySteps g mid ys
  may_then = made mid ys (ap (λ (t : DirTable). length t.dirs) state.table ∙ counted) (go.may mid state)

  pub records_joined : records_of more (xs ++ ys) ≡ records_of s xs ++ tables.records_of old.tree.dirs ys
  records_joined =
      (join more xs ys).records
      ∙ (λ i. (sym (told more xs) ∙ told s xs) i ++ (sym (told mid ys) ∙ ap (λ (t : DirTable). tables.records_of t ys) state.table) i)

  live_now : (file : ℕ) → IsSome (map.get new.held file) → KeepsInode (xs ++ ys) numbers (numbers_of new) file
  live_now file is = by (keeps.each file is)
    where
      touch : (inode : ℕ) → is_touched (xs ++ ys) inode ≡ (is_touched xs inode || is_touched ys inode)
      touch inode = list_any-append (is_of inode) xs ys

      stays : KeepsInode xs numbers (numbers_of old) file → (numbers_of new).inode file ≡ (numbers_of old).inode file → ((inode : ℕ) → (numbers_of old).inode file ≡ Some inode → is_touched ys inode ≡ false) → KeepsInode (xs ++ ys) numbers (numbers_of new) file
      stays (inl same) still off = inl (still ∙ same.0, λ inode at. touch inode ∙ or_false (is_touched xs inode) (is_touched ys inode) (same.1 inode at) (off inode (same.0 ∙ at)))
      stays (inr new) still off = inr (new.0, λ inode at. touch inode ∙ ap (λ (v : Bool). v || is_touched ys inode) (new.1 inode (sym still ∙ at)))

      by : (IsSome (map.get old.held file) × ((numbers_of new).inode file ≡ (numbers_of old).inode file) × ((inode : ℕ) → (numbers_of old).inode file ≡ Some inode → is_touched ys inode ≡ false))
          ⊎ ((numbers.inode file ≡ None) × ((inode : ℕ) → (numbers_of new).inode file ≡ Some inode → is_touched ys inode ≡ true)) → KeepsInode (xs ++ ys) numbers (numbers_of new) file
      by (inl was) = stays (n.live file was.0) was.1 was.2
      by (inr born) = inr (born.0, λ inode at. touch inode ∙ or_true (is_touched xs inode) (is_touched ys inode) (born.1 inode at))

  -- ---- whose the blocks are

  touch : (inode : ℕ) → is_touched (xs ++ ys) inode ≡ (is_touched xs inode || is_touched ys inode)
  touch inode = list_any-append (is_of inode) xs ys

  -- a live file's inode on the disk is the file's in the table
  at_inode : (file inode : ℕ) → IsSome (map.get old.held file) → numbers.inode file ≡ Some inode → file_at old.tree inode ≡ Some file
  at_inode file inode live number = by (n.live file live) (from_some (map.get old.held file) live)
    where
      by : KeepsInode xs numbers (numbers_of old) file → (h : Holding) × (map.get old.held file ≡ Some h) → file_at old.tree inode ≡ Some file
      by (inl same) (h, at) =
          let told : Some inode ≡ Some h.inode = sym number ∙ sym same.0 ∙ ap (option_map (λ (h : Holding). h.inode)) at in
          ap (file_at old.tree) (same_some inode h.inode told) ∙ was.inode file h at
      by (inr new) held = (let clash = sym new.0 ∙ number in absurd cc)

  known_now : (inode block : ℕ) → IsKnownBlock numbers old xs inode block → IsKnownBlock numbers new (xs ++ ys) inode block
  known_now inode block (inl on) = inl (touch inode ∙ ap (λ (v : Bool). v || is_touched ys inode) on)
  known_now inode block (inr (inl dir)) = by (is_touched ys inode) refl
    where
      by : (v : Bool) → is_touched ys inode ≡ v → IsKnownBlock numbers new (xs ++ ys) inode block
      by true on = inl (touch inode ∙ or_true (is_touched xs inode) (is_touched ys inode) on)
      by false off = inr (inl (ap (λ (t : DirTable). has (blocks_at t inode) block) go.dirs ∙ ap (λ (bs : List ℕ). has bs block) (blocks_stay ys old.tree.dirs inode off) ∙ dir))
  known_now inode block (inr (inr file)) = by (map.get new.held file.0) refl
    where
      by : (o : Option Holding) → map.get new.held file.0 ≡ o → IsKnownBlock numbers new (xs ++ ys) inode block
      by (Some h) some = inr (inr (file.0, ap is_some some, file.2))
      by None none =
          let gone : file_at new.tree inode ≢ Some file.0 = λ at. (let off = sym (ap is_some none) ∙ is.live inode file.0 at in cc) in
          inl (touch inode ∙ or_true (is_touched xs inode) (is_touched ys inode) (go.gone inode file.0 (at_inode file.0 inode file.1 file.2) gone))

  pub names_noted : AreNamesNoted l numbers (fresh ++ lent) new
  names_noted = record {
    committed = n.committed;
    steps = xs ++ ys;
    has = n.has;
    noted = noted_now;
    may = (join more xs ys).may (may_more_all g (has lent) s more xs has_more n.may) may_then;
    dirs = ap (λ (a : DirState). a.table) (join more xs ys).state ∙ sym (lead mid ys) ∙ ap (table_after_all ys) state.table ∙ sym go.dirs;
    kinds = subst (λ (a : DirState). AreKindsOf new.tree a.kinds) (sym (join more xs ys).state) (go.kinds mid state);
    sound = subst (HasSoundNames g) (sym (join more xs ys).state) (sound mid state sound_mid);
    live = live_now;
    known = λ inode place block at. known_now inode block (n.known inode place block at);
  }
    where
      noted_now : new.tree.noted ≡ Some (records_of more (xs ++ ys))
      noted_now =
          let before : go.noted.before ≡ records_of s xs = same_some go.noted.before (records_of s xs) (sym go.noted.was ∙ n.noted) in
          go.noted.is ∙ ap Some (ap (λ (rs : List LogRecord). rs ++ tables.records_of old.tree.dirs ys) before ∙ sym records_joined)
