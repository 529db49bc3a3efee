-- No block is lost where sets of blocks come together and part.
use Rattle.std.proofs.Common.{◌≡◌, ℕ, ◌-◌, ltb, Bool, true, false, not, ◌&&◌, ◌||◌, length, Option, Some, None, is_some, refl, sym, ap, ◌∙◌}
use Rattle.std.proofs.lemmas.Bool.{ltb-false, ltb-true}
use Rattle.std.specs.FinSet as set
use Rattle.ufs_bitmap.specs.Blocks.{BlockSet}
use Rattle.ufs_bitmap.specs.Taking.{set_of}
use Rattle.ufs_bitmap.proofs.SetLemmas.{has-difference, has-empty, has-union, same_blocks}
use Rattle.ufs_bitmap.proofs.TakingLemmas.{takes_undone}
use Rattle.ufs_file_commits.specs.Serving.{TakesOrDrops}
use Rattle.ufs_file_commits.specs.State.{DurableState}
use Rattle.ufs_extent.specs.Runs.{blocks_of}
use Rattle.ufs_joint.specs.Cells.{View}
use Rattle.ufs_store.specs.declared.fault.StoreFault.{StoreFault}
use Rattle.ufs_turns.specs.Lent.{AreTold, GainsBlocks, LacksBlocks, free_in}
use Rattle.ufs_serving.specs.Pools.{AreConserved, IsWithin}

or_true : (a : Bool) → (a || true) ≡ true
or_true true = refl
or_true false = refl

or_false : (a : Bool) → (a || false) ≡ a
or_false true = refl
or_false false = refl

-- ---- a pool gains blocks, or gives its own back

gains : (missing : ℕ) (had left old new : BlockSet) → GainsBlocks missing had left old new → set.union had old ≡ set.union left new
gains missing had left old new g = same_blocks _ _ (λ q.
    has-union had old q
    ∙ by (set.contains left q) (set.contains had q) (set.contains old q) (g.moved.within q)
    ∙ sym (has-union left new q
    ∙ ap (λ (b : Bool). set.contains left q || b) (ap (λ (s : BlockSet). set.contains s q) g.moved.given ∙ has-union old (set.difference had left) q ∙ ap (λ (b : Bool). set.contains old q || b) (has-difference had left q))))
  where
    by : (l h o : Bool) → (l ≡ true → h ≡ true) → (h || o) ≡ (l || (o || (h && not l)))
    by true h o inside = ap (λ (b : Bool). b || o) (inside refl)
    by false true o inside = sym (or_true o)
    by false false o inside = sym (or_false o)

pub conserved_by_gain : (o w : Option View) (missing : ℕ) (old new : BlockSet) → AreTold o w (λ had left. GainsBlocks missing had left old new) → AreConserved o w old new
conserved_by_gain None w missing old new a = tt
conserved_by_gain (Some v) None missing old new a = tt
conserved_by_gain (Some v) (Some u) missing old new a = gains missing (free_in v.store) (free_in u.store) old new a

pub conserved_by_lack : (o w : Option View) (missing : ℕ) (fault : StoreFault) (old new : BlockSet) → new ≡ old → AreTold o w (λ had left. LacksBlocks missing (set.len had) fault × (left ≡ had)) → AreConserved o w old new
conserved_by_lack None w missing fault old new same a = tt
conserved_by_lack (Some v) None missing fault old new same a = tt
conserved_by_lack (Some v) (Some u) missing fault old new same a = λ i. set.union (sym a.1 i) (sym same i)

pub conserved_back : (o w : Option View) (old new : BlockSet) → new ≡ set.empty → AreTold o w (λ had has. has ≡ set.union had old) → AreConserved o w old new
conserved_back None w old new none a = tt
conserved_back (Some v) None old new none a = tt
conserved_back (Some v) (Some u) old new none a =
    sym a ∙ same_blocks _ _ (λ q. sym (has-union (free_in u.store) new q
    ∙ ap (λ (b : Bool). set.contains (free_in u.store) q || b) (ap (λ (s : BlockSet). set.contains s q) none ∙ has-empty q) ∙ or_false (set.contains (free_in u.store) q)))

pub conserved_same : (o : Option View) (pool : BlockSet) → AreConserved o o pool pool
conserved_same None pool = tt
conserved_same (Some v) pool = refl

pub conserved_then : (o m w : Option View) (a b c : BlockSet) → is_some m ≡ is_some o → AreConserved o m a b → AreConserved m w b c → AreConserved o w a c
conserved_then None m w a b c telling first second = tt
conserved_then (Some v) None w a b c telling first second = absurd cc
conserved_then (Some v) (Some t) None a b c telling first second = tt
conserved_then (Some v) (Some t) (Some u) a b c telling first second = first ∙ second

-- ---- what a request leaves of a pool was the pool's

pub left_within : (f g : DurableState) (found left : BlockSet) (count : ℕ) → TakesOrDrops f g found left count → IsWithin left found
left_within f g found left count t = by (ltb count (length (blocks_of f.file.extents))) refl
  where
    by : (b : Bool) → ltb count (length (blocks_of f.file.extents)) ≡ b → IsWithin left found
    by true e q is = sym (ap (λ (s : BlockSet). set.contains s q) (t.fewer (ltb-true count (length (blocks_of f.file.extents)) e)).pool) ∙ is
    by false e q is =
        let taken = (t.more (ltb-false count (length (blocks_of f.file.extents)) e)).taken in
        sym (ap (λ (s : BlockSet). set.contains s q) (takes_undone found (count - length (blocks_of f.file.extents)) taken.runs left 0 taken.in_turn))
        ∙ has-union left (set_of taken.runs) q ∙ ap (λ (b : Bool). b || set.contains (set_of taken.runs) q) is

-- ---- so none is lost in a turn

parts : (free found left : BlockSet) → IsWithin left found → set.union free found ≡ set.union (set.union free left) (set.difference found left)
parts free found left within = same_blocks _ _ (λ q.
    has-union free found q
    ∙ by (set.contains free q) (set.contains found q) (set.contains left q) (within q)
    ∙ sym (has-union (set.union free left) (set.difference found left) q
    ∙ (λ i. has-union free left q i || has-difference found left q i)))
  where
    by : (m f l : Bool) → (l ≡ true → f ≡ true) → (m || f) ≡ ((m || l) || (f && not l))
    by true f l inside = refl
    by false f true inside = inside refl
    by false true false inside = refl
    by false false false inside = refl

pub none_lost : (o m n w : Option View) (pool found left behind : BlockSet) → is_some m ≡ is_some o → is_some n ≡ is_some m → AreConserved o m pool found → AreTold m n (λ had has. has ≡ had) → AreConserved n w left behind → IsWithin left found
    → AreTold o w (λ had has. set.union had pool ≡ set.union (set.union has behind) (set.difference found left))
none_lost None m n w pool found left behind one two first free last within = tt
none_lost (Some v) None n w pool found left behind one two first free last within = absurd cc
none_lost (Some v) (Some t) None w pool found left behind one two first free last within = absurd cc
none_lost (Some v) (Some t) (Some s) None pool found left behind one two first free last within = tt
none_lost (Some v) (Some t) (Some s) (Some u) pool found left behind one two first free last within =
    first ∙ parts (free_in t.store) found left within
    ∙ ap (λ (b : BlockSet). set.union b (set.difference found left)) (ap (λ (b : BlockSet). set.union b left) (sym free) ∙ last)
