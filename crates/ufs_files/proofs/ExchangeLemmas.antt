-- One file and the pool exchange blocks, and so does another owner of blocks: no block comes to have two owners, and
-- together they have what they had.
use Rattle.std.proofs.Common.{◌≡◌, ◌≢◌, ℕ, ◌⊎◌, inl, inr, Bool, true, false, ◌||◌, List, [], None, refl, sym, ap, ◌∙◌, subst}
use Rattle.std.specs.Ordering.{nat_cmp}
use Rattle.std.specs.FinMap as map
use Rattle.std.specs.FinSet as set
use Rattle.std.proofs.lemmas.Bool.{true≢false}
use Rattle.ufs_bitmap.specs.Blocks.{BlockSet}
use Rattle.ufs_bitmap.specs.Taking.{IsApart, has}
use Rattle.ufs_bitmap.proofs.SetLemmas.{has-union}
use Rattle.ufs_bitmap.proofs.TakingLemmas.{apart_none, union_end}
use Rattle.ufs_extent.specs.Runs.{blocks_of}
use Rattle.ufs_file.specs.Hand.{FileState}
use Rattle.ufs_files.specs.Files.{Files, AreApart, HasBlock, blocks_at}
use Rattle.ufs_files.proofs.MapLemmas.{one_or_apart, put_here, put_else, gone_here, gone_else, blocks_there, blocks_none, blocks_same}

neither : (a b : Bool) → (a || b) ≡ false → (a ≡ false) × (b ≡ false)
neither true b h = cc
neither false b h = (refl, h)

pub either : (a b : Bool) → (a || b) ≡ true → (a ≡ true) ⊎ (b ≡ true)
either true b h = inl refl
either false b h = inr h

pub from_either : (a b : Bool) → (a ≡ true) ⊎ (b ≡ true) → (a || b) ≡ true
from_either true b h = refl
from_either false b (inl h) = cc
from_either false b (inr h) = h

pub not_both : (x : Bool) → (x ≡ true → ⊥) → x ≡ false
not_both true not = absurd (not refl)
not_both false not = refl

-- ---- any two owners, of which one is the pool

module _ (before after : BlockSet) (old new : List ℕ) (together : set.union after (set.from_list new) ≡ set.union before (set.from_list old)) where
  one_set : (b : ℕ) → (set.contains after b || has new b) ≡ (set.contains before b || has old b)
  one_set b = sym (has-union after (set.from_list new) b) ∙ ap (λ (s : BlockSet). set.contains s b) together ∙ has-union before (set.from_list old) b

  -- a block that neither had, neither has now
  pub neither_has : (b : ℕ) → set.contains before b ≡ false → has old b ≡ false → (set.contains after b ≡ false) × (has new b ≡ false)
  neither_has b e k = neither (set.contains after b) (has new b) (one_set b ∙ (λ i. e i || k i))

  -- and one that one of them had, one of them has now
  pub still_has : (b : ℕ) → (set.contains before b ≡ true) ⊎ (has old b ≡ true) → (set.contains after b ≡ true) ⊎ (has new b ≡ true)
  still_has b h = either (set.contains after b) (has new b) (one_set b ∙ from_either (set.contains before b) (has old b) h)

  pub had_before : (b : ℕ) → (set.contains after b ≡ true) ⊎ (has new b ≡ true) → (set.contains before b ≡ true) ⊎ (has old b ≡ true)
  had_before b h = either (set.contains before b) (has old b) (sym (one_set b) ∙ from_either (set.contains after b) (has new b) h)

  -- a third one stays apart from both
  pub third_stays : (third : List ℕ) → IsApart before third → ((b : ℕ) → has third b ≡ true → has old b ≡ false) → IsApart after third × ((b : ℕ) → has third b ≡ true → has new b ≡ false)
  third_stays third h not = (
    record { absent = λ b e. (neither_has b (h.absent b e) (not b e)).0; once = h.once },
    λ b e. (neither_has b (h.absent b e) (not b e)).1,
  )

  -- and so do the files
  module _ (files : Files) (apart : AreApart files before) (not : (f b : ℕ) → has (blocks_at files f) b ≡ true → has old b ≡ false) where
    pub files_stay : AreApart files after
    files_stay = record { each = λ f. (third_stays (blocks_at files f) (apart.each f) (not f)).0; pairwise = apart.pairwise }

    pub files_stay_beside : (f b : ℕ) → has (blocks_at files f) b ≡ true → has new b ≡ false
    files_stay_beside f = (third_stays (blocks_at files f) (apart.each f) (not f)).1

-- ---- the pool and a file

-- The file and the pool have together the blocks that they had, and are apart; the other files are as they were.
pub record Exchanges (files new : Files) (before after : BlockSet) (f : ℕ) : Type 0 where
  pub others : (g : ℕ) → g ≢ f → map.get new g ≡ map.get files g
  pub apart : IsApart after (blocks_at new f)
  pub together : set.union after (set.from_list (blocks_at new f)) ≡ set.union before (set.from_list (blocks_at files f))

module _ (files new : Files) (before after : BlockSet) (f : ℕ) (e : Exchanges files new before after f) where
  same_blocks : (g : ℕ) → g ≢ f → blocks_at new g ≡ blocks_at files g
  same_blocks g not = blocks_same files new g (e.others g not)

  -- a block that neither the pool nor a file had, none of them has now: so whoever else has blocks stays apart
  pub nobody_has : (b : ℕ) → set.contains before b ≡ false → ((g : ℕ) → has (blocks_at files g) b ≡ false) → (set.contains after b ≡ false) × ((g : ℕ) → has (blocks_at new g) b ≡ false)
  nobody_has b out none = (here.0, λ g. by g (one_or_apart g f))
    where
      here : (set.contains after b ≡ false) × (has (blocks_at new f) b ≡ false)
      here = neither_has before after (blocks_at files f) (blocks_at new f) e.together b out (none f)

      by : (g : ℕ) → (g ≡ f) ⊎ (g ≢ f) → has (blocks_at new g) b ≡ false
      by g (inl is) = ap (λ (k : ℕ). has (blocks_at new k) b) is ∙ here.1
      by g (inr not) = ap (λ (bs : List ℕ). has bs b) (same_blocks g not) ∙ none g

  -- together they have what they had
  pub one_has : (b : ℕ) → (set.contains before b ≡ true) ⊎ HasBlock files b → (set.contains after b ≡ true) ⊎ HasBlock new b
  one_has b h = by h
    where
      there : (set.contains after b ≡ true) ⊎ (has (blocks_at new f) b ≡ true) → (set.contains after b ≡ true) ⊎ HasBlock new b
      there (inl h) = inl h
      there (inr h) = inr (f, h)

      at : (g : ℕ) → has (blocks_at files g) b ≡ true → (g ≡ f) ⊎ (g ≢ f) → (set.contains after b ≡ true) ⊎ HasBlock new b
      at g h (inl is) = there (still_has before after (blocks_at files f) (blocks_at new f) e.together b (inr (ap (λ (k : ℕ). has (blocks_at files k) b) (sym is) ∙ h)))
      at g h (inr not) = inr (g, ap (λ (bs : List ℕ). has bs b) (same_blocks g not) ∙ h)

      by : (set.contains before b ≡ true) ⊎ HasBlock files b → (set.contains after b ≡ true) ⊎ HasBlock new b
      by (inl h) = there (still_has before after (blocks_at files f) (blocks_at new f) e.together b (inl h))
      by (inr h) = at h.0 h.1 (one_or_apart h.0 f)

  pub one_had : (b : ℕ) → (set.contains after b ≡ true) ⊎ HasBlock new b → (set.contains before b ≡ true) ⊎ HasBlock files b
  one_had b h = by h
    where
      there : (set.contains before b ≡ true) ⊎ (has (blocks_at files f) b ≡ true) → (set.contains before b ≡ true) ⊎ HasBlock files b
      there (inl h) = inl h
      there (inr h) = inr (f, h)

      at : (g : ℕ) → has (blocks_at new g) b ≡ true → (g ≡ f) ⊎ (g ≢ f) → (set.contains before b ≡ true) ⊎ HasBlock files b
      at g h (inl is) = there (had_before before after (blocks_at files f) (blocks_at new f) e.together b (inr (ap (λ (k : ℕ). has (blocks_at new k) b) (sym is) ∙ h)))
      at g h (inr not) = inr (g, ap (λ (bs : List ℕ). has bs b) (sym (same_blocks g not)) ∙ h)

      by : (set.contains after b ≡ true) ⊎ HasBlock new b → (set.contains before b ≡ true) ⊎ HasBlock files b
      by (inl h) = there (had_before before after (blocks_at files f) (blocks_at new f) e.together b (inl h))
      by (inr h) = at h.0 h.1 (one_or_apart h.0 f)

  -- and no block has two of them
  module _ (apart : AreApart files before) where
    -- a block of another file isn't the file's
    beside : (g : ℕ) → g ≢ f → (b : ℕ) → has (blocks_at files g) b ≡ true → has (blocks_at files f) b ≡ false
    beside g not b h = apart.pairwise g f b not h

    other : (g : ℕ) → g ≢ f → IsApart after (blocks_at files g) × ((b : ℕ) → has (blocks_at files g) b ≡ true → has (blocks_at new f) b ≡ false)
    other g not = third_stays before after (blocks_at files f) (blocks_at new f) e.together (blocks_at files g) (apart.each g) (beside g not)

    each_now : (g : ℕ) → (g ≡ f) ⊎ (g ≢ f) → IsApart after (blocks_at new g)
    each_now g (inl is) = subst (λ (k : ℕ). IsApart after (blocks_at new k)) (sym is) e.apart
    each_now g (inr not) = subst (IsApart after) (sym (same_blocks g not)) (other g not).0

    was : (g : ℕ) → g ≢ f → (b : ℕ) → has (blocks_at new g) b ≡ true → has (blocks_at files g) b ≡ true
    was g not b h = ap (λ (bs : List ℕ). has bs b) (sym (same_blocks g not)) ∙ h

    pairwise_now : (g k b : ℕ) → g ≢ k → has (blocks_at new g) b ≡ true → has (blocks_at new k) b ≡ false
    pairwise_now g k b not h = by (one_or_apart g f) (one_or_apart k f)
      where
        by : (g ≡ f) ⊎ (g ≢ f) → (k ≡ f) ⊎ (k ≢ f) → has (blocks_at new k) b ≡ false
        by (inl is) (inl same) = absurd (not (is ∙ sym same))
        by (inl is) (inr far) =
            not_both _ (λ there. true≢false (sym (ap (λ (n : ℕ). has (blocks_at new n) b) (sym is) ∙ h) ∙ (other k far).1 b (was k far b there)))
        by (inr far) (inl same) = ap (λ (n : ℕ). has (blocks_at new n) b) same ∙ (other g far).1 b (was g far b h)
        by (inr far) (inr away) = ap (λ (bs : List ℕ). has bs b) (same_blocks k away) ∙ apart.pairwise g k b not (was g far b h)

    pub stay_apart : AreApart new after
    stay_apart = record { each = λ g. each_now g (one_or_apart g f); pairwise = pairwise_now }

-- ---- the calls

-- a file without a block comes
pub made : (files new : Files) (pool : BlockSet) (f : ℕ) (s : FileState) → map.get files f ≡ None → s.extents ≡ [] → new ≡ map.insert files f s → Exchanges files new pool pool f
made files new pool f s absent bare is = record {
  others = λ g not. ap (λ (x : Files). map.get x g) is ∙ put_else files f s g not;
  apart = subst (IsApart pool) (sym blocks) (apart_none pool [] refl);
  together = ap (λ (bs : List ℕ). set.union pool (set.from_list {R = nat_cmp} bs)) (blocks ∙ sym (blocks_none files f absent));
}
  where
    blocks : blocks_at new f ≡ []
    blocks = blocks_there new f s (ap (λ (x : Files). map.get x f) is ∙ put_here files f s) ∙ ap blocks_of bare

-- a file has no block any more, and the pool has those that it had
pub given_back : (files new : Files) (before after : BlockSet) (f : ℕ) → blocks_at new f ≡ [] → ((g : ℕ) → g ≢ f → map.get new g ≡ map.get files g)
    → after ≡ set.union before (set.from_list (blocks_at files f)) → Exchanges files new before after f
given_back files new before after f bare others is = record {
  others = others;
  apart = subst (IsApart after) (sym bare) (apart_none after [] refl);
  together = ap (λ (bs : List ℕ). set.union after (set.from_list {R = nat_cmp} bs)) bare ∙ union_end after ∙ is;
}

pub emptied : (files new : Files) (before after : BlockSet) (f : ℕ) (s : FileState) → s.extents ≡ [] → new ≡ map.insert files f s
    → after ≡ set.union before (set.from_list (blocks_at files f)) → Exchanges files new before after f
emptied files new before after f s bare is gives =
    given_back files new before after f
    (blocks_there new f s (ap (λ (x : Files). map.get x f) is ∙ put_here files f s) ∙ ap blocks_of bare)
    (λ g not. ap (λ (x : Files). map.get x g) is ∙ put_else files f s g not)
    gives

pub removed : (files new : Files) (before after : BlockSet) (f : ℕ) → new ≡ map.remove files f
    → after ≡ set.union before (set.from_list (blocks_at files f)) → Exchanges files new before after f
removed files new before after f is gives =
    given_back files new before after f
    (blocks_none new f (ap (λ (x : Files). map.get x f) is ∙ gone_here files f))
    (λ g not. ap (λ (x : Files). map.get x g) is ∙ gone_else files f g not)
    gives
