-- A request of the names with one file or none, once what it touched is settled.
use Rattle.std.proofs.Common.{◌≡◌, ◌≢◌, ℕ, ◌⊎◌, inl, inr, List, [], ◌∷◌, ◌++◌, Bool, true, false, ◌||◌, ◌&&◌, not, Option, Some, None, is_some, ap, sym, refl, ◌∙◌, subst}
use Rattle.std.specs.FinMap as map
use Rattle.std.specs.FinSet as set
use Rattle.std.specs.Ordering.{nat_cmp}
use Rattle.ufs_bitmap.specs.Blocks.{BlockSet}
use Rattle.ufs_bitmap.specs.Taking.{has, set_of}
use Rattle.ufs_bitmap.proofs.SetLemmas.{has-difference, has-union}
use Rattle.ufs_file_commits.specs.State.{CommitState}
use Rattle.ufs_extent.specs.Runs.{blocks_of}
use Rattle.ufs_file.specs.Hand.{FileState}
use Rattle.ufs_files.specs.Files.{Files}
use Rattle.ufs_files.proofs.MapLemmas.{one_or_apart}
use Rattle.ufs_model.proofs.Facts.Lookups.{same_some}
use Rattle.ufs_model.specs.declared.data.Ask.{Ask}
use Rattle.ufs_model.specs.declared.data.Desc.{Desc}
use Rattle.ufs_model.specs.declared.data.Reply.{Reply}
use Rattle.ufs_names.specs.Calls.{KeepInodes}
use Rattle.ufs_names.specs.NamesPart.{NamesPart}
use Rattle.ufs_promise_laws.specs.Serving.{HasLeft, HasServed, HasSettled, emptied_commits}
use Rattle.ufs_promise_laws.specs.Parts.{Parts}
use Rattle.ufs_noted.specs.Known.{IsSettledWith, commits_in, file_in}
use Rattle.ufs_noted.specs.Noted.{HasApplied, HasServedWith, Noted, one_file, one_known, parts_with}
use Rattle.ufs_noted.specs.declared.known.KnownFile.{KnownFile}
use Rattle.ufs_noted.proofs.Maps.{file_else, file_here, known_else, known_here, none_some, only_file}

both_on : (a b : Bool) → (a && not b) ≡ true → (a ≡ true) × (b ≡ false)
both_on true false e = (refl, refl)
both_on true true e = absurd cc
both_on false b e = absurd cc

one_on : (a b : Bool) → (a || b) ≡ true → (a ≡ true) ⊎ (b ≡ true)
one_on true b e = inl refl
one_on false b e = inr e

on_one : (a b : Bool) → (a ≡ true) ⊎ (b ≡ true) → (a || b) ≡ true
on_one true b e = refl
on_one false b (inl e) = absurd cc
on_one false b (inr e) = e

some_none : {A : Type 0} (x : A) → Some x ≡ None → ⊥
some_none x e = cc

-- ---- the pool

-- Of the pool a block was lent, or is left.
lent_or_left : (pool lent left : BlockSet) → left ≡ set.difference pool lent → (block : ℕ) → set.contains pool block ≡ true → (set.contains lent block ≡ true) ⊎ (set.contains left block ≡ true)
lent_or_left pool lent left is block has_it = by (set.contains lent block) refl
  where
    by : (b : Bool) → set.contains lent block ≡ b → (set.contains lent block ≡ true) ⊎ (set.contains left block ≡ true)
    by true e = inl e
    by false e = inr (ap (λ (s : BlockSet). set.contains s block) is ∙ has-difference pool lent block ∙ (λ i. has_it i && not (e i)))

of_pool : (pool lent left : BlockSet) → left ≡ set.difference pool lent → (block : ℕ) → set.contains left block ≡ true → (set.contains pool block ≡ true) × (set.contains lent block ≡ false)
of_pool pool lent left is block here = both_on (set.contains pool block) (set.contains lent block) (sym (has-difference pool lent block) ∙ ap (λ (s : BlockSet). set.contains s block) (sym is) ∙ here)

-- ---- no file is touched

module _ (ask : Ask) (x y : Noted) (left_files : Files) (pool left_pool : BlockSet) (reply : Reply) (desc : Option Desc) (a : HasApplied ask x y map.empty left_files pool left_pool reply desc) where
  abbrev p : Parts
  p = parts_with x map.empty map.empty pool

  abbrev next : Parts
  next = parts_with y left_files map.empty left_pool

  settled_none : HasSettled p next None
  settled_none = record {
    known = λ file is. absurd (none_some None file refl is);
    others = λ file not. refl;
    gone = λ file is none. absurd (none_some None file refl is);
    emptied = λ file s c is at bare empty told. absurd (none_some None file refl is);
    kept = λ file s is at not. absurd (none_some None file refl is);
  }

  left_none : (block : ℕ) → HasLeft p next None block → ⊥
  left_none block l = none_some None l.file refl l.this

  dropped_none : (block : ℕ) → (set.contains y.dropped block ≡ true) → (set.contains x.dropped block ≡ true) ⊎ ((set.contains a.left block ≡ true) ⊎ HasLeft p next None block)
  dropped_none block is = by (one_on (set.contains x.dropped block) (set.contains a.left block) (sym (has-union x.dropped a.left block) ∙ ap (λ (s : BlockSet). set.contains s block) (sym a.dropped) ∙ is))
    where
      by : (set.contains x.dropped block ≡ true) ⊎ (set.contains a.left block ≡ true) → (set.contains x.dropped block ≡ true) ⊎ ((set.contains a.left block ≡ true) ⊎ HasLeft p next None block)
      by (inl was) = inl was
      by (inr back) = inr (inl back)

  was_dropped : (block : ℕ) → (set.contains x.dropped block ≡ true) ⊎ ((set.contains a.left block ≡ true) ⊎ HasLeft p next None block) → set.contains y.dropped block ≡ true
  was_dropped block was = ap (λ (s : BlockSet). set.contains s block) a.dropped ∙ has-union x.dropped a.left block ∙ on_one (set.contains x.dropped block) (set.contains a.left block) (by was)
    where
      by : (set.contains x.dropped block ≡ true) ⊎ ((set.contains a.left block ≡ true) ⊎ HasLeft p next None block) → (set.contains x.dropped block ≡ true) ⊎ (set.contains a.left block ≡ true)
      by (inl is) = inl is
      by (inr (inl is)) = inr is
      by (inr (inr l)) = absurd (left_none block l)

  pub served_alone : HasServedWith ask x y map.empty left_files map.empty map.empty pool left_pool None reply desc
  served_alone = record {
    lent = a.lent;
    left = a.left;
    applied = λ t asked. record {
      served = a.served t asked;
      inodes = a.inodes;
      was_table = a.was_table;
      table = a.table;
      counted = a.counted;
      noted = a.noted;
      together = a.together;
      apart = a.apart;
      pooled = a.pooled;
      pool = of_pool pool a.lent left_pool a.pool_is;
      taken = a.taken;
      is_taken = a.is_taken;
      fresh = a.fresh;
      alone = λ file reached some. absurd (let clash : true ≡ false = sym some ∙ ap is_some (map.get-empty {X = FileState} nat_cmp file) in true_false clash);
      settled = settled_none;
      dropped = λ block. (dropped_none block, was_dropped block);
    };
    stay = a.stay;
    fewer = λ block here. (of_pool pool a.lent left_pool a.pool_is block here).0;
    unlent = lent_or_left pool a.lent left_pool a.pool_is;
  }
    where
      true_false : true ≡ false → ⊥
      true_false e = cc

-- ---- one file is touched

module _ (ask : Ask) (x mid y : Noted) (number : ℕ) (file : FileState) (commits : CommitState) (kept : Option KnownFile) (pool left_pool : BlockSet) (reply : Reply) (desc : Option Desc)
    (a : HasApplied ask x mid (one_file number (Some file)) (one_file number (file_in kept)) pool left_pool reply desc) (same : y ≡ record mid { dropped = y.dropped }) (settled : IsSettledWith commits mid.dropped y.dropped kept) where
  abbrev q : Parts
  q = parts_with x (one_file number (Some file)) (one_known number (Some commits)) pool

  abbrev r : Parts
  r = parts_with y (one_file number (file_in kept)) (one_known number (commits_in kept)) left_pool

  is_number : (f : ℕ) → Some number ≡ Some f → f ≡ number
  is_number f is = sym (same_some number f is)

  told : (f : ℕ) → Some number ≡ Some f → (c : CommitState) → map.get q.commits f ≡ Some c → c ≡ commits
  told f is c at = same_some c commits (sym at ∙ ap (map.get q.commits) (is_number f is) ∙ known_here number (Some commits))

  here_is : (f : ℕ) → Some number ≡ Some f → (o : Option FileState) → map.get r.files f ≡ o → file_in kept ≡ o
  here_is f is o at = sym (file_here number (file_in kept)) ∙ ap (map.get r.files) (sym (is_number f is)) ∙ at

  then_is : (f : ℕ) → Some number ≡ Some f → map.get r.commits f ≡ commits_in kept
  then_is f is = ap (map.get r.commits) (is_number f is) ∙ known_here number (commits_in kept)

  -- by whether the file is still there
  none_told : (o : Option KnownFile) → file_in o ≡ None → commits_in o ≡ None
  none_told None is = refl
  none_told (Some k) is = absurd (some_none k.hand is)

  emptied_told : (o : Option KnownFile) → IsSettledWith commits mid.dropped y.dropped o → (s : FileState) → file_in o ≡ Some s → s.extents ≡ [] → s.content.bytes ≡ [] → commits_in o ≡ Some (emptied_commits commits)
  emptied_told None so s is bare empty = absurd (none_some None s refl is)
  emptied_told (Some k) so s is bare empty =
      let e : k.hand ≡ s = same_some k.hand s is in
      ap Some (so.1.emptied (ap (λ (f : FileState). f.extents) e ∙ bare) (ap (λ (f : FileState). f.content.bytes) e ∙ empty))

  kept_told : (o : Option KnownFile) → IsSettledWith commits mid.dropped y.dropped o → (s : FileState) → file_in o ≡ Some s → (s.extents ≡ [] → s.content.bytes ≡ [] → ⊥) → commits_in o ≡ Some commits
  kept_told None so s is not = absurd (none_some None s refl is)
  kept_told (Some k) so s is not =
      let e : k.hand ≡ s = same_some k.hand s is in
      ap Some (so.1.kept (λ bare empty. not (ap (λ (f : FileState). f.extents) (sym e) ∙ bare) (ap (λ (f : FileState). f.content.bytes) (sym e) ∙ empty)))

  settled_one : HasSettled q r (Some number)
  settled_one = record {
    known = λ f is. ap is_some (ap (map.get q.commits) (is_number f is) ∙ known_here number (Some commits));
    others = λ f not. known_else number (commits_in kept) f (λ e. not (ap Some (sym e))) ∙ sym (known_else number (Some commits) f (λ e. not (ap Some (sym e))));
    gone = λ f is none. then_is f is ∙ none_told kept (here_is f is None none);
    emptied = λ f s c is at bare empty known. then_is f is ∙ emptied_told kept settled s (here_is f is (Some s) at) bare empty ∙ ap (λ (k : CommitState). Some (emptied_commits k)) (sym (told f is c known));
    kept = λ f s is at not. then_is f is ∙ kept_told kept settled s (here_is f is (Some s) at) not ∙ sym (ap (map.get q.commits) (is_number f is) ∙ known_here number (Some commits));
  }

  mid_case : (b : ℕ) → set.contains mid.dropped b ≡ (set.contains x.dropped b || set.contains a.left b)
  mid_case b = ap (λ (s : BlockSet). set.contains s b) a.dropped ∙ has-union x.dropped a.left b

  dropped_from : (o : Option KnownFile) → o ≡ kept → IsSettledWith commits mid.dropped y.dropped o → (b : ℕ) → set.contains y.dropped b ≡ true → (set.contains x.dropped b ≡ true) ⊎ ((set.contains a.left b ≡ true) ⊎ HasLeft q r (Some number) b)
  dropped_from (Some k) is so b here = by (one_on (set.contains x.dropped b) (set.contains a.left b) (sym (mid_case b) ∙ ap (λ (s : BlockSet). set.contains s b) (sym so.0) ∙ here))
    where
      by : (set.contains x.dropped b ≡ true) ⊎ (set.contains a.left b ≡ true) → (set.contains x.dropped b ≡ true) ⊎ ((set.contains a.left b ≡ true) ⊎ HasLeft q r (Some number) b)
      by (inl was) = inl was
      by (inr back) = inr (inl back)
  dropped_from None is so b here = by (one_on (set.contains mid.dropped b) (has (blocks_of commits.dropped) b) (sym (has-union mid.dropped (set_of commits.dropped) b) ∙ ap (λ (s : BlockSet). set.contains s b) (sym so) ∙ here))
    where
      old : (set.contains x.dropped b ≡ true) ⊎ (set.contains a.left b ≡ true) → (set.contains x.dropped b ≡ true) ⊎ ((set.contains a.left b ≡ true) ⊎ HasLeft q r (Some number) b)
      old (inl was) = inl was
      old (inr back) = inr (inl back)

      by : (set.contains mid.dropped b ≡ true) ⊎ (has (blocks_of commits.dropped) b ≡ true) → (set.contains x.dropped b ≡ true) ⊎ ((set.contains a.left b ≡ true) ⊎ HasLeft q r (Some number) b)
      by (inl was) = old (one_on (set.contains x.dropped b) (set.contains a.left b) (sym (mid_case b) ∙ was))
      by (inr held) = inr (inr (record { file = number; commits = commits; this = refl; gone = file_here number (file_in kept) ∙ ap file_in (sym is); known = known_here number (Some commits); held = held }))

  dropped_to : (o : Option KnownFile) → o ≡ kept → IsSettledWith commits mid.dropped y.dropped o → (b : ℕ) → (set.contains x.dropped b ≡ true) ⊎ ((set.contains a.left b ≡ true) ⊎ HasLeft q r (Some number) b) → set.contains y.dropped b ≡ true
  dropped_to (Some k) is so b (inl was) = ap (λ (s : BlockSet). set.contains s b) so.0 ∙ mid_case b ∙ on_one (set.contains x.dropped b) (set.contains a.left b) (inl was)
  dropped_to (Some k) is so b (inr (inl back)) = ap (λ (s : BlockSet). set.contains s b) so.0 ∙ mid_case b ∙ on_one (set.contains x.dropped b) (set.contains a.left b) (inr back)
  dropped_to (Some k) is so b (inr (inr l)) = absurd (some_none k.hand (ap file_in is ∙ here_is l.file l.this None l.gone))
  dropped_to None is so b (inl was) = ap (λ (s : BlockSet). set.contains s b) so ∙ has-union mid.dropped (set_of commits.dropped) b ∙ on_one (set.contains mid.dropped b) (has (blocks_of commits.dropped) b) (inl (mid_case b ∙ on_one (set.contains x.dropped b) (set.contains a.left b) (inl was)))
  dropped_to None is so b (inr (inl back)) = ap (λ (s : BlockSet). set.contains s b) so ∙ has-union mid.dropped (set_of commits.dropped) b ∙ on_one (set.contains mid.dropped b) (has (blocks_of commits.dropped) b) (inl (mid_case b ∙ on_one (set.contains x.dropped b) (set.contains a.left b) (inr back)))
  dropped_to None is so b (inr (inr l)) =
      ap (λ (s : BlockSet). set.contains s b) so
      ∙ has-union mid.dropped (set_of commits.dropped) b
      ∙ on_one (set.contains mid.dropped b) (has (blocks_of commits.dropped) b) (inr (ap (λ (c : CommitState). has (blocks_of c.dropped) b) (sym (told l.file l.this l.commits l.known)) ∙ l.held))

  abbrev w : Parts
  w = record r { names = mid.names; fresh = mid.fresh }

  -- the names are as they were left, but for what is dropped
  same_names : mid.names ≡ y.names
  same_names = sym (ap (λ (n : Noted). n.names) same)

  pub served_with : HasServedWith ask x y (one_file number (Some file)) (one_file number (file_in kept)) (one_known number (Some commits)) (one_known number (commits_in kept)) pool left_pool (Some number) reply desc
  served_with = record {
    lent = a.lent;
    left = a.left;
    applied = λ t asked. let served = a.served t asked in subst (λ (n : Noted). HasServed t ask q (record r { names = n.names; fresh = n.fresh }) a.lent a.left (Some number) reply desc) (sym same) (record {
      served = served;
      inodes = a.inodes;
      was_table = a.was_table;
      table = a.table;
      counted = a.counted;
      noted = a.noted;
      together = a.together;
      apart = a.apart;
      pooled = a.pooled;
      pool = of_pool pool a.lent left_pool a.pool_is;
      taken = a.taken;
      is_taken = a.is_taken;
      fresh = a.fresh;
      alone = λ f reached some. ap Some (sym (only_file number (Some file) f some));
      settled = record { known = settled_one.known; others = settled_one.others; gone = settled_one.gone; emptied = settled_one.emptied; kept = settled_one.kept };
      dropped = λ b. (λ is. moved b (dropped_from kept refl settled b is), λ is. dropped_to kept refl settled b (back b is));
    });
    stay = ap_stay a.stay;
    fewer = λ block here. (of_pool pool a.lent left_pool a.pool_is block here).0;
    unlent = lent_or_left pool a.lent left_pool a.pool_is;
  }
    where
      moved : (b : ℕ) → (set.contains x.dropped b ≡ true) ⊎ ((set.contains a.left b ≡ true) ⊎ HasLeft q r (Some number) b) → (set.contains x.dropped b ≡ true) ⊎ ((set.contains a.left b ≡ true) ⊎ HasLeft q w (Some number) b)
      moved b (inl is) = inl is
      moved b (inr (inl is)) = inr (inl is)
      moved b (inr (inr l)) = inr (inr (record { file = l.file; commits = l.commits; this = l.this; gone = l.gone; known = l.known; held = l.held }))

      back : (b : ℕ) → (set.contains x.dropped b ≡ true) ⊎ ((set.contains a.left b ≡ true) ⊎ HasLeft q w (Some number) b) → (set.contains x.dropped b ≡ true) ⊎ ((set.contains a.left b ≡ true) ⊎ HasLeft q r (Some number) b)
      back b (inl is) = inl is
      back b (inr (inl is)) = inr (inl is)
      back b (inr (inr l)) = inr (inr (record { file = l.file; commits = l.commits; this = l.this; gone = l.gone; known = l.known; held = l.held }))

      ap_stay : KeepInodes x.names.held mid.names.held → KeepInodes x.names.held y.names.held
      ap_stay stay = subst (λ (n : NamesPart). KeepInodes x.names.held n.held) same_names stay
