-- A file keeps its blocks.
use Rattle.std.proofs.Common.{◌≡◌, ℕ, ◌<◌, ◌≤◌, ◌⊎◌, inl, inr, Bool, true, false, ◌||◌, List, [], ◌++◌, length, take, drop, ap, sym, refl, ◌∙◌, subst}
use Rattle.std.proofs.lemmas.Bool.{cases_lt}
use Rattle.std.proofs.lemmas.List.{take-append-drop}
use Rattle.ufs_bitmap.specs.Blocks.{BlockSet}
use Rattle.ufs_bitmap.specs.Taking.{has}
use Rattle.ufs_bitmap.proofs.TakingLemmas.{has-append}
use Rattle.ufs_file_commits.specs.Serving.{TakesOrDrops}
use Rattle.ufs_file_commits.specs.State.{DurableState, blocks_held, whole_of}
use Rattle.ufs_extent.specs.Runs.{blocks_of, last_runs}
use Rattle.ufs_extent.proofs.PlaceLemmas.{blocks_of-first_runs, blocks_of-last_runs}
use Rattle.ufs_extent.proofs.RunLemmas.{blocks_of-append}
use Rattle.ufs_file.proofs.HandLemmas.{blocks_of-all}
use Rattle.ufs_model.specs.FileCalls.{file_step}
use Rattle.ufs_model.specs.History.{is_excused}
use Rattle.ufs_joint.specs.Blocks.{BlocksStayByCommits, BlocksStayByRequests}
use Rattle.ufs_names_commit.specs.Laws.{KeepsItsBlocks}

-- ---- what a list has

front : (xs ys : List ℕ) (b : ℕ) → has xs b ≡ true → has (xs ++ ys) b ≡ true
front xs ys b is = has-append xs ys b ∙ ap (λ (v : Bool). v || has ys b) is

behind : (xs ys : List ℕ) (b : ℕ) → has ys b ≡ true → has (xs ++ ys) b ≡ true
behind xs ys b is = by (has xs b) refl
  where
    by : (v : Bool) → has xs b ≡ v → has (xs ++ ys) b ≡ true
    by true e = front xs ys b e
    by false e = has-append xs ys b ∙ ap (λ (v : Bool). v || has ys b) e ∙ is

one_of : (xs ys : List ℕ) (b : ℕ) → has (xs ++ ys) b ≡ true → (has xs b ≡ true) ⊎ (has ys b ≡ true)
one_of xs ys b is = by (has xs b) refl
  where
    by : (v : Bool) → has xs b ≡ v → (has xs b ≡ true) ⊎ (has ys b ≡ true)
    by true e = inl e
    by false e = inr (sym (ap (λ (v : Bool). v || has ys b) e) ∙ sym (has-append xs ys b) ∙ is)

-- ---- a request

module _ (f g : DurableState) (before after : BlockSet) (count b : ℕ) (goes : TakesOrDrops f g before after count) where
  abbrev own : List ℕ
  own = blocks_of f.file.extents

  more : length (blocks_of f.file.extents) ≤ count → has (blocks_held f) b ≡ true → has (blocks_held g) b ≡ true
  more long is = by (one_of own (blocks_of f.dropped) b is)
    where
      by : (has own b ≡ true) ⊎ (has (blocks_of f.dropped) b ≡ true) → has (blocks_held g) b ≡ true
      by (inl mine) =
          let t = goes.more long in
          front (blocks_of g.file.extents) (blocks_of g.dropped) b (ap (λ (bs : List ℕ). has bs b) (ap blocks_of t.taken.extents ∙ blocks_of-all f.file.extents t.taken.runs) ∙ front own (blocks_of t.taken.runs) b mine)
      by (inr dropped) = (let t = goes.more long in behind (blocks_of g.file.extents) (blocks_of g.dropped) b (ap (λ bs. has (blocks_of bs) b) t.dropped ∙ dropped))

  fewer : count < length (blocks_of f.file.extents) → has (blocks_held f) b ≡ true → has (blocks_held g) b ≡ true
  fewer less is = by (one_of own (blocks_of f.dropped) b is)
    where
      dropped_is : blocks_of g.dropped ≡ blocks_of f.dropped ++ drop count own
      dropped_is = ap blocks_of (goes.fewer less).dropped ∙ blocks_of-append f.dropped (last_runs f.file.extents count) ∙ ap (λ (l : List ℕ). blocks_of f.dropped ++ l) (blocks_of-last_runs f.file.extents count)

      in_dropped : has (blocks_of f.dropped ++ drop count own) b ≡ true → has (blocks_held g) b ≡ true
      in_dropped at = behind (blocks_of g.file.extents) (blocks_of g.dropped) b (ap (λ (bs : List ℕ). has bs b) dropped_is ∙ at)

      mine : (has (take count own) b ≡ true) ⊎ (has (drop count own) b ≡ true) → has (blocks_held g) b ≡ true
      mine (inl kept) = front (blocks_of g.file.extents) (blocks_of g.dropped) b (ap (λ (bs : List ℕ). has bs b) (ap blocks_of (goes.fewer less).extents ∙ blocks_of-first_runs f.file.extents count) ∙ kept)
      mine (inr rest) = in_dropped (behind (blocks_of f.dropped) (drop count own) b rest)

      by : (has own b ≡ true) ⊎ (has (blocks_of f.dropped) b ≡ true) → has (blocks_held g) b ≡ true
      by (inl at) = mine (one_of (take count own) (drop count own) b (ap (λ (bs : List ℕ). has bs b) (take-append-drop count own) ∙ at))
      by (inr at) = in_dropped (front (blocks_of f.dropped) (drop count own) b at)

  pub held_still : has (blocks_held f) b ≡ true → has (blocks_held g) b ≡ true
  held_still is = by (cases_lt count (length (blocks_of f.file.extents)))
    where
      by : (count < length (blocks_of f.file.extents)) ⊎ (length (blocks_of f.file.extents) ≤ count) → has (blocks_held g) b ≡ true
      by (inl less) = fewer less is
      by (inr long) = more long is

pub by_requests : BlocksStayByRequests
by_requests f g before after ask server ticket entry desc d bytes asked may applied keeps = by (is_excused entry.reply) refl
  where
    by : (v : Bool) → is_excused entry.reply ≡ v → KeepsItsBlocks g
    by true e = subst KeepsItsBlocks (sym (applied.kept e)) keeps
    by false e = λ b is.
        let s = applied.served e d asked bytes may in
        held_still (whole_of bytes f) (whole_of (file_step bytes d ask.op).bytes g) before after _ b s.blocks (keeps b (ap (λ log. has (blocks_of log.committed.runs) b) (sym s.logged) ∙ is))

pub by_commits : BlocksStayByCommits
by_commits f noted b is = front (blocks_of f.file.extents) (blocks_of []) b (ap (λ runs. has (blocks_of runs) b) (sym noted.runs) ∙ is)
