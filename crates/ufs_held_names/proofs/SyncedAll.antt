-- Files of a list are committed, one after another.
use Rattle.std.proofs.Common.{◌≡◌, ℕ, zero, suc, ◌+◌, ◌≤◌, ◌<◌, eqb, inl, inr, Bool, true, List, [], ◌∷◌, Option, is_some, length, get_or, set, sym, refl, ap, ◌∙◌, subst, arith}
use Rattle.std.specs.FinMap as fin
use Rattle.std.specs.FinSet as fset
use Rattle.ufs_bitmap.specs.Blocks.{BlockSet}
use Rattle.ufs_bitmap.specs.Taking.{set_of}
use Rattle.ufs_file_commits.specs.State.{DurableState}
use Rattle.ufs_names.specs.NamesPart.{NamesPart}
use Rattle.ufs_hand_laws.specs.Owned.{Has, count, one}
use Rattle.ufs_joint.specs.Cells.{FileCell, NamesCell, View}
use Rattle.ufs_held.specs.Together.{under_numbers}
use Rattle.ufs_held_names.specs.HeldNames.{AreCommitted}
use Rattle.ufs_held_names.specs.SyncAll.{AreAllLive, AreSynced, AtFile, AtNames, IsFileCommitted, IsFileKept, StopsShort, freed_by}

-- ---- one file

kept_value : (was now : FileCell) → IsFileKept was now → now.value ≡ was.value
kept_value was now (inl e) = ap (λ (c : FileCell). c.value) e
kept_value was now (inr e) = ap (λ (c : FileCell). c.value) e

kept_number : (was now : FileCell) → IsFileKept was now → now.value.file.file ≡ was.value.file.file
kept_number was now kept = ap (λ (q : DurableState). q.file.file) (kept_value was now kept)

done_number : (visible : Bool) (was now : FileCell) → IsFileCommitted visible was now → now.value.file.file ≡ was.value.file.file
done_number visible was now done = ap (λ (q : DurableState). q.file.file) done.value

kept_committed : (visible : Bool) (was mid now : FileCell) → IsFileKept was mid → IsFileCommitted visible mid now → IsFileCommitted visible was now
kept_committed visible was mid now (inl e) done = subst (λ (c : FileCell). IsFileCommitted visible c now) e done
kept_committed visible was mid now (inr e) done =
    let d : IsFileCommitted visible (record was { born = true }) now = subst (λ (c : FileCell). IsFileCommitted visible c now) e done in
    record { value = d.value; known = d.known; born = d.born; rest = d.rest }

kept_told : (was mid now : FileCell) → IsFileKept was mid → now ≡ record mid { born = true } → IsFileKept was now
kept_told was mid now (inl e) told = inr (told ∙ (λ i. record (e i) { born = true }))
kept_told was mid now (inr e) told = inr (told ∙ (λ i. record (e i) { born = true }))

-- ---- all of them

pub none_synced : (visible : Bool) (cs : List FileCell) → AreSynced visible cs cs 0
none_synced visible [] = tt
none_synced visible (c ∷ cs) = (inl refl, none_synced visible cs)

pub same_counts : (visible : Bool) (olds nows : List FileCell) (k : ℕ) → AreSynced visible olds nows k → (j : ℕ) → count eqb j (under_numbers nows) ≡ count eqb j (under_numbers olds)
same_counts visible [] [] k s j = refl
same_counts visible [] (now ∷ nows) k s j = absurd s
same_counts visible (was ∷ olds) [] k s j = absurd s
same_counts visible (was ∷ olds) (now ∷ nows) zero s j = (let r = same_counts visible olds nows zero s.1 j in λ i. one (eqb j (kept_number was now s.0 i)) + r i)
same_counts visible (was ∷ olds) (now ∷ nows) (suc k) s j = (let r = same_counts visible olds nows k s.1 j in λ i. one (eqb j (done_number visible was now s.0 i)) + r i)

same_live : (visible : Bool) (olds nows : List FileCell) (k : ℕ) → AreSynced visible olds nows k → (c : FileCell) → Has c olds → (d : FileCell) × Has d nows × (d.value.file.file ≡ c.value.file.file)
same_live visible [] nows k s c has = absurd has
same_live visible (was ∷ olds) [] k s c has = absurd s
same_live visible (was ∷ olds) (now ∷ nows) zero s c (inl e) = (now, inl refl, kept_number was now s.0 ∙ ap (λ (q : FileCell). q.value.file.file) (sym e))
same_live visible (was ∷ olds) (now ∷ nows) zero s c (inr has) = (let r = same_live visible olds nows zero s.1 c has in (r.0, inr r.1, r.2))
same_live visible (was ∷ olds) (now ∷ nows) (suc k) s c (inl e) = (now, inl refl, done_number visible was now s.0 ∙ ap (λ (q : FileCell). q.value.file.file) (sym e))
same_live visible (was ∷ olds) (now ∷ nows) (suc k) s c (inr has) = (let r = same_live visible olds nows k s.1 c has in (r.0, inr r.1, r.2))

-- Each live file is among them still.
pub still_live : (visible : Bool) (names : NamesPart) (olds nows : List FileCell) (k : ℕ) → AreSynced visible olds nows k → AreAllLive names olds → AreAllLive names nows
still_live visible names olds nows k s all = record {
  live = λ file there. (let c = all.live file there in let d = same_live visible olds nows k s c.0 c.1 in (d.0, d.1, d.2 ∙ c.2));
  once = λ file. (let e = same_counts visible olds nows k s file in let l = all.once file in omega (arith, e, l));
}

-- Where all are committed, all that changed of them is known as committed.
pub all_known : (visible : Bool) (olds nows : List FileCell) (k : ℕ) → length olds ≤ k → AreSynced visible olds nows k → (d : FileCell) → Has d nows → visible ≡ true → d.changed ≤ d.known
all_known visible [] [] k l s d has seen = absurd has
all_known visible [] (now ∷ nows) k l s d has seen = absurd s
all_known visible (was ∷ olds) [] k l s d has seen = absurd s
all_known visible (was ∷ olds) (now ∷ nows) zero l s d has seen = absurd (omega (arith, l))
all_known visible (was ∷ olds) (now ∷ nows) (suc k) l s d (inl e) seen = subst (λ (c : FileCell). c.changed ≤ c.known) (sym e) (s.0.known seen)
all_known visible (was ∷ olds) (now ∷ nows) (suc k) l s d (inr has) seen = all_known visible olds nows k (omega (arith, l)) s.1 d has seen

-- ---- the next one

module _ (visible : Bool) (cur now : FileCell) where
  pub next_synced : (olds nows : List FileCell) (k : ℕ) → AreSynced visible olds nows k → k < length nows → cur ≡ get_or nows k cur → IsFileCommitted visible cur now → AreSynced visible olds (set nows k now) (suc k)
  next_synced olds [] k s l at done = absurd (omega (arith, l))
  next_synced [] (n ∷ nows) k s l at done = absurd s
  next_synced (was ∷ olds) (n ∷ nows) zero s l at done = (kept_committed visible was n now s.0 (subst (λ (c : FileCell). IsFileCommitted visible c now) at done), s.1)
  next_synced (was ∷ olds) (n ∷ nows) (suc k) s l at done = (s.0, next_synced olds nows k s.1 (omega (arith, l)) at done)

  pub failed_synced : (olds nows : List FileCell) (k : ℕ) → AreSynced visible olds nows k → k < length nows → cur ≡ get_or nows k cur → now ≡ record cur { born = true } → AreSynced visible olds (set nows k now) k
  failed_synced olds [] k s l at told = absurd (omega (arith, l))
  failed_synced [] (n ∷ nows) k s l at told = absurd s
  failed_synced (was ∷ olds) (n ∷ nows) zero s l at told = (kept_told was n now s.0 (told ∙ (λ i. record (at i) { born = true })), s.1)
  failed_synced (was ∷ olds) (n ∷ nows) (suc k) s l at told = (s.0, failed_synced olds nows k s.1 (omega (arith, l)) at told)

  -- what it drops
  pub freed_next : (olds nows : List FileCell) (k : ℕ) → AreSynced visible olds nows k → k < length nows → cur ≡ get_or nows k cur → (had : BlockSet) → freed_by (suc k) olds had ≡ fset.union (freed_by k olds had) (set_of cur.value.dropped)
  freed_next olds [] k s l at had = absurd (omega (arith, l))
  freed_next [] (n ∷ nows) k s l at had = absurd s
  freed_next (was ∷ olds) (n ∷ nows) zero s l at had = ap (λ (q : DurableState). fset.union had (set_of q.dropped)) (sym (ap (λ (c : FileCell). c.value) at ∙ kept_value was n s.0))
  freed_next (was ∷ olds) (n ∷ nows) (suc k) s l at had = freed_next olds nows k s.1 (omega (arith, l)) at (fset.union had (set_of was.value.dropped))

-- ---- the names are committed beside them

held_live : (a b : NamesPart) (files : List FileCell) → b.held ≡ a.held → AreAllLive a files → AreAllLive b files
held_live a b files same all = record { live = λ file there. all.live file (ap (λ h. is_some (fin.get h file)) (sym same) ∙ there); once = all.once }

pub synced_live : (visible : Bool) (old new : NamesCell) (olds nows : List FileCell) (k : ℕ) → AreCommitted visible old new → AreSynced visible olds nows k → AreAllLive old.value olds → AreAllLive new.value nows
synced_live visible old new olds nows k done s all = still_live visible new.value olds nows k s (held_live old.value new.value olds (ap (λ (c : NamesCell). c.value.held) done.is) all)

pub short_live : (visible : Bool) (old new : NamesCell) (olds nows : List FileCell) (tells told : Option View) → StopsShort visible old new olds nows tells told → AreAllLive old.value olds → AreAllLive new.value nows
short_live visible old new olds nows tells told (AtNames same files free) all = subst (λ (q : NamesCell × List FileCell). AreAllLive q.0.value q.1) (λ i. (sym same i, sym files i)) all
short_live visible old new olds nows tells told (AtFile done k l s freed) all = synced_live visible old new olds nows k done s all

pub short_counts : (visible : Bool) (old new : NamesCell) (olds nows : List FileCell) (tells told : Option View) → StopsShort visible old new olds nows tells told → (j : ℕ) → count eqb j (under_numbers nows) ≡ count eqb j (under_numbers olds)
short_counts visible old new olds nows tells told (AtNames same files free) j = ap (λ (cs : List FileCell). count eqb j (under_numbers cs)) files
short_counts visible old new olds nows tells told (AtFile done k l s freed) j = same_counts visible olds nows k s j
