use Rattle.std.proofs.Common.{◌≡◌, ap, ◌∙◌, sym, refl, Bool, true, false, not, ◌&&◌, eqb, option_and_then}
use Rattle.std.specs.List.{list_all}
use Rattle.ufs_model.specs.Paths.{components, ends_in_slash}
use Rattle.ufs_base.specs.Choices.{refused_if}
use Rattle.ufs_path.specs.Faults.{errno_of}
use Rattle.ufs_path.specs.declared.fault.PathFault.TheVariants.{TrailingSlash}
use Rattle.ufs_path.proofs.FaultLemmas.{errno_of-first_fault, first_fault-names, found, passed, not_empty, told_names, told_along}
use Rattle.ufs_path.proofs.check.path_fault.Goals as goal
use Rattle.ufs_path.proofs.check.path_fault.Goals.{else-ends_in_slash-via-then-ends_in_slash+else-not-is_slashes, else-ends_in_slash-via-else-ends_in_slash}

trails : (e s : Bool) → e ≡ true → s ≡ false → (e && not s) ≡ true
trails e s p q = rw (p, q) refl

ends_well : (e s : Bool) → e ≡ false → (e && not s) ≡ false
ends_well e s p = rw p refl

all_slashes : (e s : Bool) → e ≡ true → s ≡ true → (e && not s) ≡ false
all_slashes e s p q = rw (p, q) refl

pub returns-in-Some-clause-errno : goal.returns-in-Some-clause-errno
returns-in-Some-clause-errno c =
    let first = first_fault-names c.args.path.now (not_empty c.args.path.now c.is_empty.result c.is_empty.ensures c.if-is_empty.false) c.if-path-ne47.false c.if-path-gt-MAX_PATH.false in
    ap (option_and_then errno_of) (sym (first ∙ found _ c.in-Some.fault _ (sym c.component_fault.ensures ∙ c.in-Some.is))) ∙ errno_of-first_fault c.args.path.now

pub returns-then-not-is_slashes-clause-fault : goal.returns-then-not-is_slashes-clause-fault
returns-then-not-is_slashes-clause-fault c =
    let first = first_fault-names c.args.path.now (not_empty c.args.path.now c.is_empty.result c.is_empty.ensures c.if-is_empty.false) c.if-path-ne47.false c.if-path-gt-MAX_PATH.false in
    sym (first ∙ passed _ _ (sym c.component_fault.ensures ∙ c.in_default.is)
    ∙ ap (λ t. refused_if t TrailingSlash) (trails _ _ (sym c.ends_in_slash.ensures ∙ c.if-ends_in_slash.true) (sym c.is_slashes.ensures ∙ c.if-not-is_slashes.true)))

pub returns-then-not-is_slashes-clause-errno : goal.returns-then-not-is_slashes-clause-errno
returns-then-not-is_slashes-clause-errno c = ap (option_and_then errno_of) (returns-then-not-is_slashes-clause-fault c) ∙ errno_of-first_fault c.args.path.now

pub returns-clause-fault : goal.returns-clause-fault
returns-clause-fault c =
    let first = first_fault-names c.args.path.now (not_empty c.args.path.now c.is_empty.result c.is_empty.ensures c.if-is_empty.false) c.if-path-ne47.false c.if-path-gt-MAX_PATH.false in
    let end : (ends_in_slash c.args.path.now && not (list_all (λ b. eqb b 47) c.args.path.now)) ≡ false =
    elim c.else-ends_in_slash.branch [
      | else-ends_in_slash-via-then-ends_in_slash+else-not-is_slashes w ↦ all_slashes _ _ (sym c.ends_in_slash.ensures ∙ w.if-ends_in_slash.true) (sym w.is_slashes.ensures ∙ w.if-not-is_slashes.false)
      | else-ends_in_slash-via-else-ends_in_slash w ↦ ends_well _ _ (sym c.ends_in_slash.ensures ∙ w.if-ends_in_slash.false)
    ] in
    sym (first ∙ passed _ _ (sym c.component_fault.ensures ∙ c.in_default.is) ∙ ap (λ t. refused_if t TrailingSlash) end)

pub returns-clause-errno : goal.returns-clause-errno
returns-clause-errno c = ap (option_and_then errno_of) (returns-clause-fault c) ∙ errno_of-first_fault c.args.path.now

pub returns-in-Some-clause-told : goal.returns-in-Some-clause-told
returns-in-Some-clause-told c = told_along _ c.in-Some.fault (told_names (components c.args.path.now)) (sym c.component_fault.ensures ∙ c.in-Some.is)
