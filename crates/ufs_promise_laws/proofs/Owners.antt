-- Whose a block is behind a request of the names.
use Rattle.std.proofs.Common.{◌≡◌, ◌≢◌, ℕ, ◌⊎◌, inl, inr, List, ◌++◌, Bool, true, false, Some, None, ◌||◌, ap, sym, refl, ◌∙◌, subst}
use Rattle.std.specs.Prelude.{nat_eq}
use Rattle.std.specs.List.{IsDistinct}
use Rattle.std.specs.FinMap as map
use Rattle.std.specs.FinSet as set
use Rattle.ufs_bitmap.specs.Blocks.{BlockSet}
use Rattle.ufs_bitmap.specs.Taking.{has}
use Rattle.ufs_bitmap.proofs.TakingLemmas.{distinct_apart, has-append}
use Rattle.ufs_dir_tree.specs.DirTable.{blocks_at}
use Rattle.ufs_dirs.specs.Directory.{has_block}
use Rattle.ufs_file_commits.specs.State.{DurableState, blocks_held}
use Rattle.ufs_extent.specs.Runs.{blocks_of}
use Rattle.ufs_file.specs.Hand.{FileState}
use Rattle.ufs_files.specs.Files as file_set
use Rattle.ufs_model.specs.PosixTree.{PosixTree}
use Rattle.ufs_model.proofs.Facts.Lookups.{same_some, there_or_not}
use Rattle.ufs_names.specs.Space.{HasBlock}
use Rattle.ufs_promise_laws.specs.Parts.{FileOwns, NamesOwn, OneFile, Owner, Owns, Parts, TheNames, ThePool, Unassigned, durable_in}
use Rattle.ufs_promise_laws.specs.Requests.{HasGone, IsNamesRequest, StaysOrEmptied, emptied}
use Rattle.ufs_promise_laws.proofs.ListedBlocks.{at_from, at_there, clash, has_same, held_case, held_dropped, held_own, on_or_off, or_case, or_left, or_right}
use Rattle.ufs_promise_laws.proofs.RequestNewFiles.{nothing_new}

module _ (t u : PosixTree) (p next : Parts) (lent left unassigned : BlockSet) (r : IsNamesRequest t u p next lent left)
    (apart : (one other : Owner) (b : ℕ) → Owns p unassigned one b → Owns p unassigned other b → one ≡ other)
    (once : (f : ℕ) (s : FileState) → map.get p.files f ≡ Some s → IsDistinct nat_eq (blocks_held (durable_in p.commits s))) where
  -- ---- files

  -- A file has no block that it had not.
  pub file_before : (f b : ℕ) → FileOwns next f b → FileOwns p f b
  file_before f b owns = by (there_or_not (map.get p.files f))
    where
      stays : (s : FileState) → map.get p.files f ≡ Some s → StaysOrEmptied p next s owns.hand → FileOwns p f b
      stays s at (inl same) = record { hand = s; here = at; held = ap (λ (d : DurableState). has (blocks_held d) b) (sym same.1) ∙ owns.held }
      stays s at (inr cut) = record {
        hand = s;
        here = at;
        held = held_dropped (durable_in p.commits s) b (ap (λ (d : DurableState). has (blocks_held d) b) (sym cut.1) ∙ owns.held);
      }

      by : ((s : FileState) × (map.get p.files f ≡ Some s)) ⊎ (map.get p.files f ≡ None) → FileOwns p f b
      by (inl at) = stays at.0 at.1 (r.stay f at.0 owns.hand at.1 owns.here)
      by (inr none) = absurd (nothing_new t u p next lent left r f owns.hand none owns.here b owns.held)

  -- A block that directories, files or the lent ones have now is no file's that dropped it.
  dropped_alone : (f b : ℕ) (s : FileState) → map.get p.files f ≡ Some s → has (blocks_of (durable_in p.commits s).dropped) b ≡ true → HasBlock p.names.tree.dirs p.files lent b → ⊥
  dropped_alone f b s at gone (inl is_lent) = let no = apart (OneFile f) ThePool b (record { hand = s; here = at; held = held_dropped (durable_in p.commits s) b gone }) (r.pooled b is_lent) in cc
  dropped_alone f b s at gone (inr (inl dir)) =
      let no = apart (OneFile f) TheNames b (record { hand = s; here = at; held = held_dropped (durable_in p.commits s) b gone }) (inr (inr (dir.0, sym (has_same (blocks_at p.names.tree.dirs dir.0) b) ∙ dir.1))) in cc
  dropped_alone f b s at gone (inr (inr file)) = by (at_from p.files file.0 b file.1)
    where
      by : (o : FileState) × (map.get p.files file.0 ≡ Some o) × (has (blocks_of o.extents) b ≡ true) → ⊥
      by has_it =
          let one = apart (OneFile f) (OneFile file.0) b (record { hand = s; here = at; held = held_dropped (durable_in p.commits s) b gone })
          (record { hand = has_it.0; here = has_it.1; held = held_own (durable_in p.commits has_it.0) b has_it.2 }) in
          let number : f ≡ file.0 = cc in
          let same : has_it.0 ≡ s = same_some has_it.0 s (sym has_it.1 ∙ ap (map.get p.files) (sym number) ∙ at) in
          clash (has (blocks_of (durable_in p.commits s).dropped) b) gone
          (distinct_apart (blocks_of s.extents) (blocks_of (durable_in p.commits s).dropped) (once f s at) b (ap (λ (o : FileState). has (blocks_of o.extents) b) (sym same) ∙ has_it.2))

  -- What no file has among its own blocks now, and a directory, a file or the lent ones had, no file has at all.
  not_held : (f b : ℕ) → HasBlock p.names.tree.dirs p.files lent b → has (file_set.blocks_at next.files f) b ≡ false → FileOwns next f b → ⊥
  not_held f b had off owns = by (held_case (durable_in next.commits owns.hand) b owns.held)
    where
      dropped : has (blocks_of (durable_in next.commits owns.hand).dropped) b ≡ true → ((s : FileState) × (map.get p.files f ≡ Some s)) ⊎ (map.get p.files f ≡ None) → ⊥
      dropped gone (inr none) = nothing_new t u p next lent left r f owns.hand none owns.here b owns.held
      dropped gone (inl at) = stays (r.stay f at.0 owns.hand at.1 owns.here)
        where
          stays : StaysOrEmptied p next at.0 owns.hand → ⊥
          stays (inl same) = dropped_alone f b at.0 at.1 (ap (λ (d : DurableState). has (blocks_of d.dropped) b) (sym same.1) ∙ gone) had
          stays (inr cut) = dropped_alone f b at.0 at.1 (ap (λ (d : DurableState). has (blocks_of d.dropped) b) (sym cut.1) ∙ gone) had

      by : (has (blocks_of owns.hand.extents) b ≡ true) ⊎ (has (blocks_of (durable_in next.commits owns.hand).dropped) b ≡ true) → ⊥
      by (inl own) = clash _ (at_there next.files f b owns.hand owns.here own) off
      by (inr gone) = dropped gone (there_or_not (map.get p.files f))

  -- ---- names

  -- a file had the block, and doesn't have it any more
  abbrev pub Lost : ℕ → Type 0
  Lost b = (f : ℕ) × FileOwns p f b × (FileOwns next f b → ⊥)

  -- what a directory has now, or is left
  came : (b : ℕ) → HasBlock p.names.tree.dirs p.files lent b → ((f : ℕ) → has (file_set.blocks_at next.files f) b ≡ false) → NamesOwn p b ⊎ ((set.contains lent b ≡ true) ⊎ Lost b)
  came b (inl is_lent) off = inr (inl is_lent)
  came b (inr (inl dir)) off = inl (inr (inr (dir.0, sym (has_same (blocks_at p.names.tree.dirs dir.0) b) ∙ dir.1)))
  came b (inr (inr file)) off =
      let has_it = at_from p.files file.0 b file.1 in
      inr (inr (file.0, record { hand = has_it.0; here = has_it.1; held = held_own (durable_in p.commits has_it.0) b has_it.2 }, not_held file.0 b (inr (inr file)) (off file.0)))

  -- The names had the block, or it was lent, or a file lost it.
  pub names_before : (b : ℕ) → NamesOwn next b → NamesOwn p b ⊎ ((set.contains lent b ≡ true) ⊎ Lost b)
  names_before b (inl is) = by (or_case (has p.fresh b) (has r.taken b) (sym (has-append p.fresh r.taken b) ∙ ap (λ (blocks : List ℕ). has blocks b) (sym r.fresh) ∙ is))
    where
      by : (has p.fresh b ≡ true) ⊎ (has r.taken b ≡ true) → NamesOwn p b ⊎ ((set.contains lent b ≡ true) ⊎ Lost b)
      by (inl was) = inl (inl was)
      by (inr took) = inr (inl (sym (r.is_taken b) ∙ took))
  names_before b (inr (inl is)) = by ((r.dropped b).0 is)
    where
      by : (set.contains p.dropped b ≡ true) ⊎ ((set.contains left b ≡ true) ⊎ HasGone p next b) → NamesOwn p b ⊎ ((set.contains lent b ≡ true) ⊎ Lost b)
      by (inl was) = inl (inr (inl was))
      by (inr (inl back)) = came b ((r.together b).0 (inl back)) (λ f. off f (on_or_off (has (file_set.blocks_at next.files f) b)))
        where
          off : (f : ℕ) → (has (file_set.blocks_at next.files f) b ≡ true) ⊎ (has (file_set.blocks_at next.files f) b ≡ false) → has (file_set.blocks_at next.files f) b ≡ false
          off f (inl on) = absurd (clash (set.contains left b) back ((r.apart.files.each f).absent b on))
          off f (inr none) = none
      by (inr (inr gone)) = inr (inr (
        gone.file,
        record { hand = gone.hand; here = gone.was; held = held_dropped (durable_in p.commits gone.hand) b gone.held },
        λ owns. let no = sym owns.here ∙ gone.gone in cc,
      ))
  names_before b (inr (inr dir)) =
      let is = has_same (blocks_at next.names.tree.dirs dir.0) b ∙ dir.1 in
      came b ((r.together b).0 (inr (inl (dir.0, is)))) (λ f. r.apart.mixed dir.0 f b is)

  -- They have what they had,
  pub names_kept : (b : ℕ) → NamesOwn p b → NamesOwn next b
  names_kept b (inl is) = inl (ap (λ (blocks : List ℕ). has blocks b) r.fresh ∙ has-append p.fresh r.taken b ∙ or_left _ _ is)
  names_kept b (inr (inl is)) = inr (inl ((r.dropped b).1 (inl is)))
  names_kept b (inr (inr dir)) = by ((r.together b).1 (inr (inl (dir.0, has_same (blocks_at p.names.tree.dirs dir.0) b ∙ dir.1))))
    where
      by : HasBlock next.names.tree.dirs next.files left b → NamesOwn next b
      by (inl back) = inr (inl ((r.dropped b).1 (inr (inl back))))
      by (inr (inl now)) = inr (inr (now.0, sym (has_same (blocks_at next.names.tree.dirs now.0) b) ∙ now.1))
      by (inr (inr file)) =
          let has_it = at_from next.files file.0 b file.1 in
          let owns = file_before file.0 b (record { hand = has_it.0; here = has_it.1; held = held_own (durable_in next.commits has_it.0) b has_it.2 }) in
          let no = apart (OneFile file.0) TheNames b owns (inr (inr dir)) in absurd cc

  -- and what a file had it has, or they do.
  pub file_kept : (f b : ℕ) → FileOwns p f b → NamesOwn next b ⊎ FileOwns next f b
  file_kept f b owns = by (there_or_not (map.get next.files f)) (held_case (durable_in p.commits owns.hand) b owns.held)
    where
      own : has (blocks_of owns.hand.extents) b ≡ true → NamesOwn next b ⊎ FileOwns next f b
      own is = at_now ((r.together b).1 (inr (inr (f, at_there p.files f b owns.hand owns.here is))))
        where
          at_now : HasBlock next.names.tree.dirs next.files left b → NamesOwn next b ⊎ FileOwns next f b
          at_now (inl back) = inl (inr (inl ((r.dropped b).1 (inr (inl back)))))
          at_now (inr (inl now)) = inl (inr (inr (now.0, sym (has_same (blocks_at next.names.tree.dirs now.0) b) ∙ now.1)))
          at_now (inr (inr file)) =
              let has_it = at_from next.files file.0 b file.1 in
              let now : FileOwns next file.0 b = record { hand = has_it.0; here = has_it.1; held = held_own (durable_in next.commits has_it.0) b has_it.2 } in
              let one = apart (OneFile file.0) (OneFile f) b (file_before file.0 b now) owns in
              let number : file.0 ≡ f = cc in
              inr (subst (λ (k : ℕ). FileOwns next k b) number now)

      by : ((s : FileState) × (map.get next.files f ≡ Some s)) ⊎ (map.get next.files f ≡ None)
          → (has (blocks_of owns.hand.extents) b ≡ true) ⊎ (has (blocks_of (durable_in p.commits owns.hand).dropped) b ≡ true) → NamesOwn next b ⊎ FileOwns next f b
      by at (inl is) = own is
      by (inr none) (inr gone) = inl (inr (inl ((r.dropped b).1 (inr (inr (record { file = f; hand = owns.hand; was = owns.here; gone = none; held = gone }))))))
      by (inl at) (inr gone) = stays (r.stay f owns.hand at.0 owns.here at.1)
        where
          stays : StaysOrEmptied p next owns.hand at.0 → NamesOwn next b ⊎ FileOwns next f b
          stays (inl same) = inr (record { hand = at.0; here = at.1; held = ap (λ (d : DurableState). has (blocks_held d) b) same.1 ∙ held_dropped (durable_in p.commits owns.hand) b gone })
          stays (inr cut) = inr (record { hand = at.0; here = at.1; held = ap (λ (d : DurableState). has (blocks_held d) b) cut.1 ∙ held_dropped (emptied (durable_in p.commits owns.hand)) b gone })

  -- No directory has what is dropped.
  pub parted_now : ((dir b : ℕ) → set.contains p.dropped b ≡ true → has (blocks_at p.names.tree.dirs dir) b ≡ false) → (dir b : ℕ) → set.contains next.dropped b ≡ true → has (blocks_at next.names.tree.dirs dir) b ≡ false
  parted_now parted dir b is = settle (has (blocks_at next.names.tree.dirs dir) b) refl
    where
      was_dropped : set.contains p.dropped b ≡ true → HasBlock p.names.tree.dirs p.files lent b → ⊥
      was_dropped was (inl is_lent) = (let no = apart ThePool TheNames b (r.pooled b is_lent) (inr (inl was)) in cc)
      was_dropped was (inr (inl at)) = clash _ (sym (has_same (blocks_at p.names.tree.dirs at.0) b) ∙ at.1) (parted at.0 b was)
      was_dropped was (inr (inr file)) =
          let has_it = at_from p.files file.0 b file.1 in
          let no = apart (OneFile file.0) TheNames b (record { hand = has_it.0; here = has_it.1; held = held_own (durable_in p.commits has_it.0) b has_it.2 }) (inr (inl was)) in
          cc

      by : (set.contains p.dropped b ≡ true) ⊎ ((set.contains left b ≡ true) ⊎ HasGone p next b) → has_block (blocks_at next.names.tree.dirs dir) b ≡ true → ⊥
      by (inl was) at = was_dropped was ((r.together b).0 (inr (inl (dir, at))))
      by (inr (inl back)) at = clash (set.contains left b) back (r.apart.dirs dir b at)
      by (inr (inr gone)) at = dropped_alone gone.file b gone.hand gone.was gone.held ((r.together b).0 (inr (inl (dir, at))))

      settle : (v : Bool) → has (blocks_at next.names.tree.dirs dir) b ≡ v → has (blocks_at next.names.tree.dirs dir) b ≡ false
      settle false off = off
      settle true on = absurd (by ((r.dropped b).0 is) (has_same (blocks_at next.names.tree.dirs dir) b ∙ on))

  -- ---- owners

  -- Who has a block now had it, or had it before the names.
  pub before : (o : Owner) (b : ℕ) → Owns next unassigned o b → (was : Owner) × Owns p unassigned was b
  before (OneFile f) b owns = (OneFile f, file_before f b owns)
  before ThePool b owns = (ThePool, (r.pool b owns).0)
  before Unassigned b owns = (Unassigned, owns)
  before TheNames b owns = by (names_before b owns)
    where
      by : NamesOwn p b ⊎ ((set.contains lent b ≡ true) ⊎ Lost b) → (was : Owner) × Owns p unassigned was b
      by (inl had) = (TheNames, had)
      by (inr (inl is_lent)) = (ThePool, r.pooled b is_lent)
      by (inr (inr lost)) = (OneFile lost.0, lost.1)

  -- it had it, where it isn't the names
  pub same_before : (o : Owner) (b : ℕ) → o ≢ TheNames → Owns next unassigned o b → Owns p unassigned o b
  same_before (OneFile f) b not owns = file_before f b owns
  same_before ThePool b not owns = (r.pool b owns).0
  same_before Unassigned b not owns = owns
  same_before TheNames b not owns = absurd (not refl)

  -- What the names have now nobody else has.
  off_names : (o : Owner) (b : ℕ) → o ≢ TheNames → Owns next unassigned o b → NamesOwn p b ⊎ ((set.contains lent b ≡ true) ⊎ Lost b) → ⊥
  off_names o b not owns (inl had) = not (apart o TheNames b (same_before o b not owns) had)
  off_names (OneFile f) b not owns (inr (inl is_lent)) = (let no = apart (OneFile f) ThePool b (file_before f b owns) (r.pooled b is_lent) in cc)
  off_names ThePool b not owns (inr (inl is_lent)) = clash (set.contains lent b) is_lent (r.pool b owns).1
  off_names Unassigned b not owns (inr (inl is_lent)) = (let no = apart Unassigned ThePool b owns (r.pooled b is_lent) in cc)
  off_names TheNames b not owns (inr (inl is_lent)) = not refl
  off_names (OneFile f) b not owns (inr (inr lost)) =
      (let one = apart (OneFile f) (OneFile lost.0) b (file_before f b owns) lost.1 in
      let number : f ≡ lost.0 = cc in
      lost.2 (subst (λ (k : ℕ). FileOwns next k b) number owns))
  off_names ThePool b not owns (inr (inr lost)) = (let no = apart ThePool (OneFile lost.0) b (r.pool b owns).0 lost.1 in cc)
  off_names Unassigned b not owns (inr (inr lost)) = (let no = apart Unassigned (OneFile lost.0) b owns lost.1 in cc)
  off_names TheNames b not owns (inr (inr lost)) = not refl

  names_or_not : (o : Owner) → (o ≡ TheNames) ⊎ (o ≢ TheNames)
  names_or_not TheNames = inl refl
  names_or_not (OneFile f) = inr (λ e. cc)
  names_or_not ThePool = inr (λ e. cc)
  names_or_not Unassigned = inr (λ e. cc)

  -- No block is two owners'.
  pub apart_now : (one other : Owner) (b : ℕ) → Owns next unassigned one b → Owns next unassigned other b → one ≡ other
  apart_now one other b a c = by (names_or_not one) (names_or_not other)
    where
      names : (o : Owner) → o ≡ TheNames → Owns next unassigned o b → NamesOwn p b ⊎ ((set.contains lent b ≡ true) ⊎ Lost b)
      names o is owns = names_before b (subst (λ (w : Owner). Owns next unassigned w b) is owns)

      by : (one ≡ TheNames) ⊎ (one ≢ TheNames) → (other ≡ TheNames) ⊎ (other ≢ TheNames) → one ≡ other
      by (inl e) (inl f) = e ∙ sym f
      by (inl e) (inr not) = absurd (off_names other b not c (names one e a))
      by (inr not) (inl f) = absurd (off_names one b not a (names other f c))
      by (inr off) (inr not) = apart one other b (same_before one b off a) (same_before other b not c)
