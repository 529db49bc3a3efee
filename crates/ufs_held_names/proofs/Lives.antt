-- Which files are live once the names have served a request.
use Rattle.std.proofs.Common.{◌≡◌, ◌≢◌, ◌<◌, ℕ, ◌+◌, ◌⊎◌, inl, inr, eqb, Bool, true, false, cond, ◌&&◌, ◌||◌, Option, Some, None, is_some, sym, refl, ap, ◌∙◌, arith}
use Rattle.std.specs.Prelude.{IfSome, IsSome}
use Rattle.std.specs.Ordering.{nat_cmp}
use Rattle.std.specs.FinMap as map
use Rattle.ufs_bitmap.specs.Blocks.{BlockSet}
use Rattle.ufs_file.specs.Hand.{FileState}
use Rattle.ufs_files.specs.Files.{Files}
use Rattle.ufs_files.proofs.MapLemmas.{one_or_apart}
use Rattle.ufs_model.specs.Posix.{posix}
use Rattle.ufs_model.specs.PosixTree.{PosixTree}
use Rattle.ufs_model.specs.declared.data.Ask.{Ask}
use Rattle.ufs_model.specs.declared.data.Desc.{Desc}
use Rattle.ufs_model.specs.declared.data.Reply.{Reply}
use Rattle.ufs_names.specs.Calls.{IsAsked, IsServed, no_bytes}
use Rattle.ufs_hand_laws.proofs.Keys.{itself}
use Rattle.ufs_promise_laws.specs.Parts.{Commits}
use Rattle.ufs_noted.specs.Known.{file_in}
use Rattle.ufs_noted.specs.Noted.{HasServedWith, Noted, one_file}
use Rattle.ufs_noted.specs.declared.known.KnownFile.{KnownFile}
use Rattle.ufs_joint.proofs.Blocks.{or_right}
use Rattle.ufs_noted.proofs.Maps.{file_else, file_here, none_some, only_file}
use Rattle.ufs_noted.proofs.Numbers.{next_then}
use Rattle.ufs_held_names.specs.Drawn.{made_number}

none_of : {A : Type 0} (o : Option A) → is_some o ≡ false → o ≡ None
none_of None e = refl
none_of (Some x) e = absurd cc

module _ (t : PosixTree) (ask : Ask) (x y : Noted) (files left_files : Files) (commits left_commits : Commits) (pool left : BlockSet) (touched : Option ℕ) (r : Reply) (d : Option Desc) (asked : IsAsked t x.names ask files)
    (with_files : HasServedWith ask x y files left_files commits left_commits pool left touched r d) where
  abbrev u : PosixTree
  u = (posix t ask.client ask.op).0

  served : IsServed t ask y.names files left_files r d
  served = (with_files.applied t asked).served

  then_there : (f : ℕ) → IsSome (map.get y.names.held f) → is_some (map.get u.bytes f) ≡ true
  then_there f live = sym (served.goes_on.told f) ∙ live

  -- each was live before, or is the next one, which isn't here before and is here then
  lives_on : (f : ℕ) → IsSome (map.get y.names.held f) → IsSome (map.get x.names.held f) ⊎ ((map.get files f ≡ None) × (f ≡ x.names.next) × IsSome (map.get left_files f))
  lives_on f live = at (map.get files f) refl (one_or_apart f t.next)
    where
      at : (o : Option FileState) → map.get files f ≡ o → (f ≡ t.next) ⊎ (f ≢ t.next) → IsSome (map.get x.names.held f) ⊎ ((map.get files f ≡ None) × (f ≡ x.names.next) × IsSome (map.get left_files f))
      at (Some s) is where_to = inl (asked.part.told f ∙ ap is_some (asked.files f s is).here)
      at None is (inl e) =
          let next : eqb f t.next ≡ true = ap (λ (m : ℕ). eqb m t.next) e ∙ itself t.next in
          inr (is, e ∙ sym asked.part.next, served.go_on.here f ∙ (λ i. ((is_some (is i) || next i) && then_there f live i)))
      at None is (inr off) = inl (asked.part.told f ∙ ap is_some (sym (served.go_on.others f is off)) ∙ then_there f live)

  -- one that was here, and is here no more, is live no more
  goes : (f : ℕ) (s : FileState) → map.get files f ≡ Some s → map.get left_files f ≡ None → map.get y.names.held f ≡ None
  goes f s was none =
      none_of (map.get y.names.held f)
      (served.goes_on.told f ∙ sym (sym (ap is_some none) ∙ served.go_on.here f ∙ (λ i. ((is_some (was i) || eqb f t.next) && is_some (map.get u.bytes f)))))

  -- the next number is one more exactly where a file has it then
  next_on : y.names.next ≡ cond (is_some (map.get left_files x.names.next)) (x.names.next + 1) x.names.next
  next_on =
      let next = asked.part.next in
      let there : is_some (map.get left_files x.names.next) ≡ is_some (map.get u.bytes x.names.next) =
      served.go_on.here x.names.next ∙ ap (λ (b : Bool). b && is_some (map.get u.bytes x.names.next)) (or_right (is_some (map.get files x.names.next)) (eqb x.names.next t.next) (ap (λ (m : ℕ). eqb m t.next) next ∙ itself t.next)) in
      served.goes_on.next ∙ next_then t ask.client ask.op served.goes_on.tree ∙ (λ i. cond (is_some (map.get u.bytes (sym next i))) (sym next i + 1) (sym next i)) ∙ ap (λ (b : Bool). cond b (x.names.next + 1) x.names.next) (sym there)

-- where none is touched,
pub next_alone : (t : PosixTree) (ask : Ask) (x y : Noted) (made : Option FileState) (pool left : BlockSet) (r : Reply) (d : Option Desc) → IsAsked t x.names ask map.empty → HasServedWith ask x y map.empty (one_file x.names.next made) map.empty map.empty pool left None r d
    → y.names.next ≡ cond (is_some made) (x.names.next + 1) x.names.next
next_alone t ask x y made pool left r d asked came =
    next_on t ask x y map.empty (one_file x.names.next made) map.empty map.empty pool left None r d asked came ∙ ap (λ (o : Option FileState). cond (is_some o) (x.names.next + 1) x.names.next) (file_here x.names.next made)

pub lives_alone : (t : PosixTree) (ask : Ask) (x y : Noted) (made : Option FileState) (pool left : BlockSet) (r : Reply) (d : Option Desc) → IsAsked t x.names ask map.empty → HasServedWith ask x y map.empty (one_file x.names.next made) map.empty map.empty pool left None r d
    → IfSome made (λ s. s ≡ no_bytes x.names.next s.inode) → (f : ℕ) → IsSome (map.get y.names.held f) → IsSome (map.get x.names.held f) ⊎ (made_number made ≡ Some f)
lives_alone t ask x y made pool left r d asked came young f live = by (lives_on t ask x y map.empty (one_file x.names.next made) map.empty map.empty pool left None r d asked came f live)
  where
    number : (o : Option FileState) → IfSome o (λ s. s ≡ no_bytes x.names.next s.inode) → IsSome o → made_number o ≡ Some x.names.next
    number None its some = absurd cc
    number (Some s) its some = ap (λ (q : FileState). Some q.file) its

    by : IsSome (map.get x.names.held f) ⊎ ((map.get {X = FileState} (map.empty {R = nat_cmp}) f ≡ None) × (f ≡ x.names.next) × IsSome (map.get (one_file x.names.next made) f)) → IsSome (map.get x.names.held f) ⊎ (made_number made ≡ Some f)
    by (inl was) = inl was
    by (inr new) =
        let some : IsSome made = ap is_some (sym (file_here x.names.next made) ∙ ap (map.get (one_file x.names.next made)) (sym new.1)) ∙ new.2 in
        inr (number made young some ∙ ap Some (sym new.1))

-- and where one is.
module _ (t : PosixTree) (ask : Ask) (x y : Noted) (file : KnownFile) (then : Option KnownFile) (commits left_commits : Commits) (pool left : BlockSet) (r : Reply) (d : Option Desc) (asked : IsAsked t x.names ask (one_file file.hand.file (Some file.hand)))
    (came : HasServedWith ask x y (one_file file.hand.file (Some file.hand)) (one_file file.hand.file (file_in then)) commits left_commits pool left (Some file.hand.file) r d) where
  pub lives_with : (f : ℕ) → IsSome (map.get y.names.held f) → IsSome (map.get x.names.held f)
  lives_with f live = by (lives_on t ask x y (one_file file.hand.file (Some file.hand)) (one_file file.hand.file (file_in then)) commits left_commits pool left (Some file.hand.file) r d asked came f live)
    where
      by : IsSome (map.get x.names.held f) ⊎ ((map.get (one_file file.hand.file (Some file.hand)) f ≡ None) × (f ≡ x.names.next) × IsSome (map.get (one_file file.hand.file (file_in then)) f)) → IsSome (map.get x.names.held f)
      by (inl was) = was
      by (inr new) =
          let at = only_file file.hand.file (file_in then) f new.2 in
          absurd (none_some (map.get (one_file file.hand.file (Some file.hand)) f) file.hand new.0 (ap (map.get (one_file file.hand.file (Some file.hand))) at ∙ file_here file.hand.file (Some file.hand)))

  pub gone_with : then ≡ None → map.get y.names.held file.hand.file ≡ None
  gone_with none =
      goes t ask x y (one_file file.hand.file (Some file.hand)) (one_file file.hand.file (file_in then)) commits left_commits pool left (Some file.hand.file) r d asked came file.hand.file file.hand
      (file_here file.hand.file (Some file.hand)) (file_here file.hand.file (file_in then) ∙ ap file_in none)

  -- the touched file has a lower number, so none is made
  pub next_with : y.names.next ≡ x.names.next
  next_with =
      let low = asked.part.tree.numbered file.hand.file (ap is_some (asked.files file.hand.file file.hand (file_here file.hand.file (Some file.hand))).here) in
      let next = asked.part.next in
      next_on t ask x y (one_file file.hand.file (Some file.hand)) (one_file file.hand.file (file_in then)) commits left_commits pool left (Some file.hand.file) r d asked came
      ∙ ap (λ (o : Option FileState). cond (is_some o) (x.names.next + 1) x.names.next) (file_else file.hand.file (file_in then) x.names.next (λ is. absurd (omega (arith, low, next, is))))
