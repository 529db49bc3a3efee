use Rattle.std.proofs.Common.{ap, sym, ◌∙◌, ◌≡◌, subst, Result, Ok, Err, OnOk}
use Rattle.std.specs.FinSet as set
use Rattle.ufs_bitmap.specs.Blocks.{BlockSet}
use Rattle.ufs_store.specs.declared.fault.StoreFault.{StoreFault}
use Rattle.ufs_turns.specs.Lent.{AreTold}
use Rattle.ufs_noted.specs.Noted.{Noted}
use Rattle.ufs_noted.proofs.noted.NotedNames.reclaim.Goals as goal

second : {B C : Type 0} (A : Type 0) (r : Result (Unit {0}) StoreFault) → (B → C) → OnOk r (A × B) → OnOk r C
second A (Ok x) f a = f a.1
second A (Err e) f a = tt

pub reclaim_with_files-requires-clause-lent : goal.reclaim_with_files-requires-clause-lent
reclaim_with_files-requires-clause-lent g c v too =
    let l = c.requires.lent v too in
    (l.0, l.1, l.2 ∙ ap (λ (n : Noted). n.dropped) (sym c.self.view_is))

pub returns-clause-back : goal.returns-clause-back
returns-clause-back g c =
    let tells = g.T.Turns.tells c.args.door.now in
    let told = g.T.Turns.tells c.reclaim_with_files.new.door in
    second (c.reclaim_with_files.new.dropped ≡ set.empty) c.reclaim_with_files.result (λ a. subst (λ (s : BlockSet). AreTold tells told (λ had has. has ≡ set.union had s)) (ap (λ (n : Noted). n.dropped) c.self.view_is) a) c.reclaim_with_files.ensures.back
