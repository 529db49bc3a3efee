-- What a step that was done said.
use Rattle.std.proofs.Common.{◌≡◌, subst}
use Rattle.std.specs.Prelude.{Result, Ok, IfOk, OnOk}
use Rattle.std.proofs.lemmas.Result.{IfOk-at_ok, IfOk-weaker}

pub on_done : {T E F : Type 0} (X : Type 0) (done : Result T E) (result : Result T F) → IfOk result (λ end. done ≡ Ok end) → OnOk done X → OnOk result X
on_done X done result is has = IfOk-weaker result _ _ (λ end at. subst (λ (r : Result _ _). OnOk r X) at has) is

pub was_done : {T E : Type 0} (X : Type 0) {done : Result T E} {end : T} → done ≡ Ok end → OnOk done X → X
was_done X at has = IfOk-at_ok (λ _. X) at has
