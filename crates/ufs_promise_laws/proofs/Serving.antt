-- What the parts tell of a request makes it one of the names.
use Rattle.std.proofs.Common.{◌≡◌, ◌≢◌, ℕ, ◌⊎◌, inl, inr, List, [], ◌∷◌, Bool, true, false, Option, Some, None, is_some, length, ap, sym, refl, ◌∙◌, subst}
use Rattle.std.specs.Prelude.{nat_eq, unwrap_or}
use Rattle.std.specs.List.{IsDistinct}
use Rattle.std.specs.FinMap as map
use Rattle.std.specs.FinSet as set
use Rattle.ufs_bitmap.specs.Blocks.{BlockSet}
use Rattle.ufs_bitmap.specs.Taking.{has}
use Rattle.ufs_bitmap.proofs.TakingLemmas.{distinct-none, distinct_front}
use Rattle.ufs_dir_tree.specs.DirTable.{blocks_at}
use Rattle.ufs_dirs.specs.Directory.{has_block}
use Rattle.ufs_file_commits.specs.State.{CommitState, DurableState, IsNoted, state_of}
use Rattle.ufs_extent.specs.declared.Run.{Run}
use Rattle.ufs_extent.specs.Runs.{blocks_of}
use Rattle.ufs_file.specs.Hand.{FileState}
use Rattle.ufs_files.specs.Files as file_set
use Rattle.ufs_files.proofs.MapLemmas.{blocks_none, blocks_there, one_or_apart}
use Rattle.ufs_layout.specs.declared.geometry.Geometry.{Geometry}
use Rattle.ufs_model.specs.Posix.{posix}
use Rattle.ufs_model.specs.PosixTree.{PosixTree}
use Rattle.ufs_model.specs.declared.data.Ask.{Ask}
use Rattle.ufs_model.specs.declared.data.Desc.{Desc}
use Rattle.ufs_model.specs.declared.data.Reply.{Reply}
use Rattle.ufs_model.proofs.Facts.Lookups.{from_some, same_some, there_or_not}
use Rattle.ufs_names.specs.Calls.{HasNoByte, no_bytes}
use Rattle.ufs_names.specs.Space.{AreApart}
use Rattle.ufs_names.proofs.WholeFiles.{whole_served}
use Rattle.ufs_promise_laws.specs.Parts.{Commits, FileOwns, NamesOwn, OneFile, Parts, TheNames, ThePool, committed_as, durable_in}
use Rattle.ufs_promise_laws.specs.Sound.{IsSoundServer}
use Rattle.ufs_promise_laws.specs.Stored.{ArePartsOf}
use Rattle.ufs_promise_laws.specs.Requests.{HasGone, IsNamesRequest, StaysOrEmptied, emptied}
use Rattle.ufs_promise_laws.specs.Serving.{HasLeft, HasServed, PoolsMayLend, ServedIsRequest, emptied_commits}
use Rattle.ufs_promise_laws.proofs.ListedBlocks.{at_from, clash, has_same, held_own}

-- ---- blocks that are lent

module _ (g : Geometry) (u : BlockSet) (p : Parts) (sound : IsSoundServer g u p) where
  owns_here : (f b : ℕ) → has (file_set.blocks_at p.files f) b ≡ true → FileOwns p f b
  owns_here f b e = let at = at_from p.files f b e in record { hand = at.0; here = at.1; held = held_own (durable_in p.commits at.0) b at.2 }

  off : (v : Bool) → (v ≡ true → ⊥) → v ≡ false
  off true not = absurd (not refl)
  off false not = refl

  once_here : (f : ℕ) → IsDistinct nat_eq (file_set.blocks_at p.files f)
  once_here f = by (there_or_not (map.get p.files f))
    where
      by : ((s : FileState) × (map.get p.files f ≡ Some s)) ⊎ (map.get p.files f ≡ None) → IsDistinct nat_eq (file_set.blocks_at p.files f)
      by (inl at) = subst (IsDistinct nat_eq) (sym (blocks_there p.files f at.0 at.1)) (distinct_front (blocks_of at.0.extents) (blocks_of (durable_in p.commits at.0).dropped) (sound.each f at.0 at.1).once)
      by (inr none) = subst (IsDistinct nat_eq) (sym (blocks_none p.files f none)) distinct-none

  pub may_lend : (lent : BlockSet) → ((b : ℕ) → set.contains lent b ≡ true → set.contains p.pool b ≡ true) → AreApart p.names.tree.dirs p.files lent
  may_lend lent within = record {
    dirs = λ i b is. off (set.contains lent b) (λ e. let clash = sound.apart ThePool TheNames b (within b e) (dir_owns i b is) in cc);
    files = record {
      each = λ f. record { absent = λ b e. off (set.contains lent b) (λ is. let clash = sound.apart ThePool (OneFile f) b (within b is) (owns_here f b e) in cc); once = once_here f };
      pairwise = λ f h b not e. off (has (file_set.blocks_at p.files h) b) (λ is. not (same_file f h (sound.apart (OneFile f) (OneFile h) b (owns_here f b e) (owns_here h b is))));
    };
    mixed = λ i f b is. off (has (file_set.blocks_at p.files f) b) (λ e. let clash = sound.apart TheNames (OneFile f) b (dir_owns i b is) (owns_here f b e) in cc);
  }
    where
      dir_owns : (i b : ℕ) → has_block (blocks_at p.names.tree.dirs i) b ≡ true → NamesOwn p b
      dir_owns i b is = inr (inr (i, sym (has_same (blocks_at p.names.tree.dirs i) b) ∙ is))

      same_file : (f h : ℕ) → OneFile f ≡ OneFile h → f ≡ h
      same_file f h e = cc

pub pools_may_lend : PoolsMayLend
pools_may_lend g u p lent sound within = may_lend g u p sound lent within

-- ---- a request that was served

module _ (g : Geometry) (u : BlockSet) (t : PosixTree) (ask : Ask) (p next : Parts) (lent left : BlockSet) (touched : Option ℕ) (reply : Reply) (desc : Option Desc) (sound : IsSoundServer g u p) (parts : ArePartsOf p t)
    (h : HasServed t ask p next lent left touched reply desc) where
  touched_or_not : (f : ℕ) → (touched ≡ Some f) ⊎ (touched ≢ Some f)
  touched_or_not f = by touched refl
    where
      by : (o : Option ℕ) → touched ≡ o → (touched ≡ Some f) ⊎ (touched ≢ Some f)
      by None e = inr (λ is. let clash : None ≡ Some f = sym e ∙ is in cc)
      by (Some k) e = of (one_or_apart k f)
        where
          of : (k ≡ f) ⊎ (k ≢ f) → (touched ≡ Some f) ⊎ (touched ≢ Some f)
          of (inl same) = inl (e ∙ ap Some same)
          of (inr not) = inr (λ is. not (same_some k f (sym e ∙ is)))

  -- a file that isn't touched is as it was
  as_it_was : (f : ℕ) (s : FileState) → map.get p.files f ≡ Some s → touched ≢ Some f → map.get next.files f ≡ Some s
  as_it_was f s at not = h.served.untouched f (λ is. not (h.alone f is (ap is_some at))) ∙ at

  -- what a file is with what is known of it
  durable_is : (commits : Commits) (f : ℕ) (s : FileState) (c : CommitState) → s.file ≡ f → map.get commits f ≡ Some c → durable_in commits s ≡ state_of s c
  durable_is commits f s c number e = ap (λ (o : Option CommitState). state_of s (unwrap_or o (committed_as s))) (ap (map.get commits) number ∙ e)

  durable_same : (f : ℕ) (s : FileState) → s.file ≡ f → map.get next.commits f ≡ map.get p.commits f → durable_in next.commits s ≡ durable_in p.commits s
  durable_same f s number e = ap (λ (o : Option CommitState). state_of s (unwrap_or o (committed_as s))) (ap (map.get next.commits) number ∙ e ∙ sym (ap (map.get p.commits) number))

  module _ (f : ℕ) (s r : FileState) (at : map.get p.files f ≡ Some s) (here : map.get next.files f ≡ Some r) where
    abbrev number : s.file ≡ f
    number = (parts.files f s at).0

    -- the same file, with the same known
    still : r ≡ s → map.get next.commits f ≡ map.get p.commits f → StaysOrEmptied p next s r
    still same told = inl (same, ap (durable_in next.commits) same ∙ durable_same f s number told)

    module _ (is : touched ≡ Some f) (c : CommitState) (known : map.get p.commits f ≡ Some c) where
      -- a log that notes no byte
      noted_none : s.extents ≡ [] → s.content.bytes ≡ [] → emptied_commits c ≡ c
      noted_none bare empty =
          let noted = subst (λ (d : DurableState). IsNoted d) (durable_is p.commits f s c number known) (sound.each f s at).noted in
          let runs : c.log.noted.runs ≡ [] = noted.runs ∙ bare in
          let size : c.log.noted.size ≡ 0 = noted.size ∙ ap (λ (bytes : List ℕ). length bytes) empty in
          λ i. record c { log = record (c.log) { noted = record { runs = sym runs i; size = sym size i } } }

      bare_still : r ≡ s → s.extents ≡ [] → s.content.bytes ≡ [] → StaysOrEmptied p next s r
      bare_still same bare empty =
          still same
          (h.settled.emptied f r c is here (ap (λ (o : FileState). o.extents) same ∙ bare) (ap (λ (o : FileState). o.content.bytes) same ∙ empty) known ∙ ap Some (noted_none bare empty) ∙ sym known)

      same_still : r ≡ s → (xs : List Run) (ys : List ℕ) → s.extents ≡ xs → s.content.bytes ≡ ys → StaysOrEmptied p next s r
      same_still same [] [] bare empty = bare_still same bare empty
      same_still same (x ∷ xs) ys bare empty = still same (h.settled.kept f r is here (λ none also. let clash : [] ≡ x ∷ xs = sym none ∙ ap (λ (o : FileState). o.extents) same ∙ bare in cc))
      same_still same [] (y ∷ ys) bare empty = still same (h.settled.kept f r is here (λ none also. let clash : [] ≡ y ∷ ys = sym also ∙ ap (λ (o : FileState). o.content.bytes) same ∙ empty in cc))

      cut_now : r ≡ no_bytes f s.inode → StaysOrEmptied p next s r
      cut_now cut =
          let told = h.settled.emptied f r c is here (ap (λ (o : FileState). o.extents) cut) (ap (λ (o : FileState). o.content.bytes) cut) known in
          let mine : r ≡ no_bytes s.file s.inode = cut ∙ ap (λ (n : ℕ). no_bytes n s.inode) (sym number) in
          inr (mine, durable_is next.commits f r (emptied_commits c) (h.served.files f r here).number told ∙ ap (λ (o : FileState). state_of o (emptied_commits c)) mine ∙ ap emptied (sym (durable_is p.commits f s c number known)))

      touched_stays : ((r ≡ s) × (map.get (posix t ask.client ask.op).0.bytes f ≡ map.get t.bytes f)) ⊎ HasNoByte (posix t ask.client ask.op).0 f s.inode r → StaysOrEmptied p next s r
      touched_stays (inl same) = same_still same.0 s.extents s.content.bytes refl refl
      touched_stays (inr cut) = cut_now cut.0

    stay : StaysOrEmptied p next s r
    stay = by (touched_or_not f)
      where
        by : (touched ≡ Some f) ⊎ (touched ≢ Some f) → StaysOrEmptied p next s r
        by (inl is) = let known = from_some (map.get p.commits f) (h.settled.known f is) in touched_stays is known.0 known.1 (h.served.go_on.stays f s r at here)
        by (inr not) = still (same_some r s (sym here ∙ as_it_was f s at not)) (h.settled.others f not)

  unknown : (f : ℕ) → map.get p.files f ≡ None → map.get next.commits f ≡ None
  unknown f none = by (touched_or_not f)
    where
      by : (touched ≡ Some f) ⊎ (touched ≢ Some f) → map.get next.commits f ≡ None
      by (inl is) = let clash = sym (h.settled.known f is) ∙ ap is_some (sound.known f none) in absurd cc
      by (inr not) = h.settled.others f not ∙ sound.known f none

  forgotten : (f : ℕ) → map.get next.files f ≡ None → map.get next.commits f ≡ None
  forgotten f none = by (touched_or_not f)
    where
      before : touched ≢ Some f → ((s : FileState) × (map.get p.files f ≡ Some s)) ⊎ (map.get p.files f ≡ None) → map.get p.commits f ≡ None
      before not (inl at) = let clash : None ≡ Some at.0 = sym none ∙ as_it_was f at.0 at.1 not in absurd cc
      before not (inr off) = sound.known f off

      by : (touched ≡ Some f) ⊎ (touched ≢ Some f) → map.get next.commits f ≡ None
      by (inl is) = h.settled.gone f is none
      by (inr not) = h.settled.others f not ∙ before not (there_or_not (map.get p.files f))

  -- ---- blocks that a file had dropped

  gone_from : (b : ℕ) → HasLeft p next touched b → HasGone p next b
  gone_from b l = by (there_or_not (map.get p.files l.file))
    where
      by : ((s : FileState) × (map.get p.files l.file ≡ Some s)) ⊎ (map.get p.files l.file ≡ None) → HasGone p next b
      by (inl at) = record {
        file = l.file;
        hand = at.0;
        was = at.1;
        gone = l.gone;
        held = ap (λ (d : DurableState). has (blocks_of d.dropped) b) (durable_is p.commits l.file at.0 l.commits (parts.files l.file at.0 at.1).0 l.known) ∙ l.held;
      }
      by (inr off) = let clash : Some l.commits ≡ None = sym l.known ∙ sound.known l.file off in absurd cc

  left_from : (b : ℕ) → HasGone p next b → HasLeft p next touched b
  left_from b o = by (touched_or_not o.file)
    where
      by : (touched ≡ Some o.file) ⊎ (touched ≢ Some o.file) → HasLeft p next touched b
      by (inl is) =
          let known = from_some (map.get p.commits o.file) (h.settled.known o.file is) in
          record {
            file = o.file;
            commits = known.0;
            this = is;
            gone = o.gone;
            known = known.1;
            held = ap (λ (d : DurableState). has (blocks_of d.dropped) b) (sym (durable_is p.commits o.file o.hand known.0 (parts.files o.file o.hand o.was).0 known.1)) ∙ o.held;
          }
      by (inr not) = let clash : None ≡ Some o.hand = sym o.gone ∙ as_it_was o.file o.hand o.was not in absurd cc

  abbrev Dropped : ℕ → Type 0 → Type 0
  Dropped b last = (set.contains p.dropped b ≡ true) ⊎ ((set.contains left b ≡ true) ⊎ last)

  swapped : {A B : Type 0} → (A → B) → (b : ℕ) → Dropped b A → Dropped b B
  swapped f b (inl was) = inl was
  swapped f b (inr (inl back)) = inr (inl back)
  swapped f b (inr (inr gone)) = inr (inr (f gone))

  pub is_request : IsNamesRequest t (posix t ask.client ask.op).0 p next lent left
  is_request = record {
    before = parts;
    after = h.served.goes_on;
    files = whole_served t ask next.names p.files next.files reply desc parts.files h.served;
    go_on = h.served.go_on;
    inodes = h.inodes parts.inodes;
    was_table = h.was_table;
    table = h.table;
    counted = h.counted;
    noted = h.noted;
    pooled = h.pooled;
    together = h.together;
    apart = h.apart;
    pool = h.pool;
    taken = h.taken;
    is_taken = h.is_taken;
    fresh = h.fresh;
    dropped = λ b. (λ is. swapped (gone_from b) b ((h.dropped b).0 is), λ is. (h.dropped b).1 (swapped (left_from b) b is));
    stay = stay;
    unknown = unknown;
    forgotten = forgotten;
  }

pub served_is_request : ServedIsRequest
served_is_request g u t ask p next lent left touched reply desc sound parts h = is_request g u t ask p next lent left touched reply desc sound parts h
