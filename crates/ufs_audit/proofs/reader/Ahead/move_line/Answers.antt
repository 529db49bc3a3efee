use Rattle.std.proofs.Common.{◌≡◌, ◌+◌, ◌-◌, ◌≤◌, ◌++◌, ◌∙◌, [], ℕ, List, refl, sym, subst, ap, arith, length, drop, take}
use Rattle.std.proofs.lemmas.Grind.{common_steps}
use Rattle.std.proofs.lemmas.List.{drop_all}
use Rattle.ufs_audit.proofs.ReadLemmas.{moved_some, moved_none}
use Rattle.ufs_audit.proofs.reader.Ahead.move_line.Goals as goal

-- the slice from a place on
whole_rest : (n : ℕ) (xs ys : List ℕ) → xs ≡ ys → take (length xs - n) (drop n xs) ≡ drop n ys
whole_rest n xs ys same =
    let all : take (length xs - n) (drop n xs) ≡ drop n xs = grind (arith, common_steps) in
    all ∙ ap (λ (l : List ℕ). drop n l) same

pub returns-in_ok-extend_from_slice-in-Some : goal.returns-in_ok-extend_from_slice-in-Some
returns-in_ok-extend_from_slice-in-Some c =
    let at = c.self.inside.at in
    let seen = c.as_slice.result.now in
    moved_some at c.in-Some.end c.self.inside.bytes.items (take (length seen - at) (drop at seen)) c.args.self.now c.args.line.now.items c.extend_from_slice.new.self.items
    (sym c.self.view_is) (whole_rest at seen c.self.inside.bytes.items c.as_slice.ensures.value) (sym c.in-Some.ensures) c.in_ok-extend_from_slice-in-Some.ensures.items

pub returns-in_ok-extend_from_slice-in-None : goal.returns-in_ok-extend_from_slice-in-None
returns-in_ok-extend_from_slice-in-None c =
    let at = c.self.inside.at in
    let seen = c.as_slice.result.now in
    let moved = moved_none at c.self.inside.bytes.items (take (length seen - at) (drop at seen)) c.args.self.now c.args.line.now.items c.extend_from_slice-in-None.new.self.items
    (sym c.self.view_is) (whole_rest at seen c.self.inside.bytes.items c.as_slice.ensures.value) (sym c.in-None.ensures) c.in_ok-extend_from_slice-in-None.ensures.items in
    (moved.0, moved.1, drop_all c.len-self-inside.result c.self.inside.bytes.items (omega (arith, c.len-self-inside.ensures, c.self.inside.bytes.ok.0)))
