use Rattle.std.proofs.Common.{◌≡◌, ◌∙◌, ◌-◌, ◌++◌, List, ℕ, length, take, replicate, ap, arith, vec_len}
use Rattle.std.proofs.lemmas.List.{take_all}
use Rattle.ufs_file.proofs.content.padded.Goals as goal

pub returns : goal.returns
returns c =
    let bytes : List ℕ = c.args.bytes.now in
    let is : c.extend_from_slice.new.self.items ≡ bytes = c.in_ok-extend_from_slice.ensures.items ∙ ap (λ (l : List ℕ). l ++ bytes) c.in_ok-got.ensures.items in
    let long : vec_len c.extend_from_slice.new.self ≡ length bytes = omega (arith, c.in_ok-extend_from_slice.ensures.len, c.in_ok-got.ensures.len) in
    c.in_ok-resize.ensures.items ∙ (λ i. take 4096 (is i) ++ replicate (4096 - long i) 0) ∙ ap (λ (l : List ℕ). l ++ replicate (4096 - length bytes) 0) (take_all 4096 bytes c.requires)
