-- What was put is what was taken and what is held.
use Rattle.std.proofs.Common.{◌≡◌, ℕ, List, [], ◌∷◌, ◌++◌, refl, sym, ap, ◌∙◌, append_assoc}
use Rattle.ufs_ring.specs.Runs.{Run, made, put, took, IsFrontOf}

run_order : {T : Type 0} (capacity : ℕ) (p t h : List T) → Run capacity p t h → p ≡ t ++ h
run_order capacity _ _ _ made = refl
run_order capacity _ _ _ (put p t h x run room) = ap (λ l. l ++ x ∷ []) (run_order capacity p t h run) ∙ append_assoc t h (x ∷ [])
run_order capacity _ _ _ (took p t h x run) = run_order capacity p t (x ∷ h) run ∙ sym (append_assoc t (x ∷ []) h)

pub run_is_front : {T : Type 0} (capacity : ℕ) (p t h : List T) → Run capacity p t h → IsFrontOf t p
run_is_front capacity p t h run = (h, run_order capacity p t h run)
