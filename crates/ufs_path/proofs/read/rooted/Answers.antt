use Rattle.std.proofs.Common.{◌≡◌, ◌∙◌, ap, sym, arith, ℕ, Vec, vec_len, Global}
use Rattle.std.proofs.lemmas.Bool.{eqb-true, eqb-false}
use Rattle.ufs_path.proofs.KeptLemmas.{whole_path-some, whole_path-none}
use Rattle.ufs_path.proofs.read.rooted.Goals as goal
use Rattle.ufs_path.proofs.read.rooted.Goals.{then-is_empty+in_ok-push, else-is_empty}

pub returns : goal.returns
returns c = λ names read.
    elim c.if-is_empty.branch [
      | then-is_empty+in_ok-push w ↦
          let none : vec_len c.args.bytes ≡ 0 = eqb-true _ 0 (sym c.is_empty.ensures ∙ w.if-is_empty.true) in
          ap (λ (b : Vec ℕ Global). b.items) w.bytes-is ∙ w.in_ok-push.ensures.items ∙ whole_path-none c.args.bytes.items names read (omega arith)
      | else-is_empty w ↦
          let some : vec_len c.args.bytes ≡ 0 → ⊥ = eqb-false _ 0 (sym c.is_empty.ensures ∙ w.if-is_empty.false) in
          ap (λ (b : Vec ℕ Global). b.items) w.bytes-is ∙ whole_path-some c.args.bytes.items names read (λ e. some (omega arith))
    ]
