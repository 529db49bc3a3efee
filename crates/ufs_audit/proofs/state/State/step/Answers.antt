use Rattle.std.proofs.Common.{◌≡◌, ◌≢◌, ◌+◌, ◌<◌, ◌++◌, ◌∷◌, [], ℕ, List, Ok, Some, None, Option, IfSome, sym, subst, ap, ◌∙◌, length, arith, refl, true, false, slice_set}
use Rattle.ufs_model.specs.PosixTree.{PosixTree}
use Rattle.ufs_model.specs.History.{tree_after}
use Rattle.ufs_model.specs.declared.data.Op.{Op}
use Rattle.ufs_model.specs.declared.data.Entry.{Entry}
use Rattle.ufs_lines.specs.Trace.{Tells}
use Rattle.ufs_audit.specs.Audit.{Begins, IsWrong, entry_of}
use Rattle.ufs_audit.specs.Following.{Stands, IsStep, IsCount, IsJudged}
use Rattle.ufs_lines.specs.declared.told.Told.{Told}
use Rattle.ufs_audit.specs.declared.verdict.Wrong.{Wrong}
use Rattle.ufs_audit.specs.declared.verdict.Wrong.TheVariants as wrong
use Rattle.ufs_audit.proofs.StepLemmas.{none_told, none_asked, judged_wrong, right_next, stands_more}
use Rattle.ufs_audit.proofs.state.State.step.Goals as goal

pub returns-in_default : goal.returns-in_default
returns-in_default c = λ start history stands is text more begins.
    none_told start c.args.clients.now c.args.answers.now history text c.args.self.now.tree c.args.self.now.counts.items c.args.self.now.faults.keys stands
    c.args.line.now more begins
    (λ told tells. c.in_ok-told.ensures.none (ap Ok c.in_default.is) told (subst (λ (n : ℕ). Tells n told c.args.line.now) (sym is) tells))

pub returns-else-complete : goal.returns-else-complete
returns-else-complete c = λ start history stands is text more begins.
    let tells = subst (λ (n : ℕ). Tells n c.in-Some.told c.args.line.now) is (subst (λ (o : Option Told). IfSome o (λ told. Tells c.args.ticket told c.args.line.now)) c.in-Some.is c.in_ok-told.ensures.some) in
    none_asked start c.args.clients.now c.args.answers.now history text c.args.self.now.tree c.args.self.now.counts.items c.args.self.now.faults.keys stands
    c.args.line.now more c.in-Some.told c.is_complete-complete.result begins
    tells (subst (λ (l : List ℕ). (op : Op) → IsCount c.args.clients.now l c.in-Some.told op → ⊥) c.as_slice.ensures.value (c.in_default-next_request.ensures.none refl))
    (c.is_complete-complete.ensures start history stands) wrong.Order
    (λ yes. let bad : true ≡ false = sym yes ∙ c.if-complete.false in cc)
    (λ _. refl)

pub returns-in-Some-2 : goal.returns-in-Some-2
returns-in-Some-2 c = λ start history stands is text more begins.
    let tells = subst (λ (n : ℕ). Tells n c.in-Some.told c.args.line.now) is (subst (λ (o : Option Told). IfSome o (λ told. Tells c.args.ticket told c.args.line.now)) c.in-Some.is c.in_ok-told.ensures.some) in
    judged_wrong start c.args.clients.now c.args.answers.now history text c.args.self.now.tree c.args.self.now.counts.items c.args.self.now.faults.keys stands
    c.args.ticket c.args.line.now more c.in-Some.told c.in-Some-next_request.op.now c.in-Some-2.cause c.judge.new.self.tree c.judge.new.self.faults.keys is
    begins tells (subst (λ (l : List ℕ). IsCount c.args.clients.now l c.in-Some.told c.in-Some-next_request.op.now) c.as_slice.ensures.value c.in-Some-next_request.ensures.some)
    (subst (λ (w : Option Wrong). IsJudged c.args.self.now.tree c.args.self.now.faults.keys c.args.answers.now (entry_of c.args.ticket c.args.self.now.tree c.in-Some.told c.in-Some-next_request.op.now) c.judge.new.self.tree c.judge.new.self.faults.keys w) c.in-Some-2.is c.in_ok-cause.ensures.judged)

pub returns : goal.returns
returns c = λ start history stands is.
    let tells = subst (λ (n : ℕ). Tells n c.in-Some.told c.args.line.now) is (subst (λ (o : Option Told). IfSome o (λ told. Tells c.args.ticket told c.args.line.now)) c.in-Some.is c.in_ok-told.ensures.some) in
    let right = subst (λ (w : Option Wrong). IsJudged c.args.self.now.tree c.args.self.now.faults.keys c.args.answers.now (entry_of c.args.ticket c.args.self.now.tree c.in-Some.told c.in-Some-next_request.op.now) c.judge.new.self.tree c.judge.new.self.faults.keys w) c.in_default-2.is c.in_ok-cause.ensures.judged in
    let op = c.in-Some-next_request.op.now in
    let count = subst (λ (l : List ℕ). IsCount c.args.clients.now l c.in-Some.told op) c.as_slice.ensures.value c.in-Some-next_request.ensures.some in
    let next = right_next start c.args.clients.now c.args.answers.now history [] c.args.self.now.tree c.args.self.now.counts.items c.args.self.now.faults.keys stands
    c.args.ticket c.args.line.now c.in-Some.told op c.judge.new.self.tree c.judge.new.self.faults.keys is tells count right in
    let more = stands_more start c.args.clients.now c.args.answers.now history [] c.args.self.now.tree c.args.self.now.counts.items c.args.self.now.faults.keys stands
    c.args.ticket c.in-Some.told op c.judge.new.self.tree c.judge.new.self.faults.keys is c.in-Some-next_request.ensures.few count right c.in_ok-cause.ensures.next in (
      c.in-Some.told,
      op,
      next,
      subst (λ (l : List ℕ). Stands start c.args.clients.now (history ++ entry_of (length history) (tree_after start history) c.in-Some.told op ∷ []) c.judge.new.self.tree l c.judge.new.self.faults.keys)
          (let counts = ap (λ v. v.items) (sym c.in_ok-cause.ensures.counts) in λ i. slice_set (counts i) (sym c.from.ensures i) (c.in-Some.told.seq + 1)) more,
    )
