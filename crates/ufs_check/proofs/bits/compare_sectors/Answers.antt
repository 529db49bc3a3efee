use Rattle.std.proofs.Common.{◌≡◌, ◌+◌, ◌-◌, ◌*◌, ap, sym, ◌∙◌, arith, length, take, drop, length-drop}
use Rattle.std.proofs.lemmas.List.{length-take}
use Rattle.ufs_check.proofs.Sectors.{bits_behind}
use Rattle.ufs_check.proofs.bits.compare_sectors.Goals as goal

pub loop-i-preserved : goal.loop-i-preserved
loop-i-preserved c g image nodes taken are =
    let i = c.loop-i.i in
    let place = c.args.place in
    let bytes = c.args.bytes.now in
    let row : 8 + (8 * place + i) ≡ 8 * (1 + place) + i = omega arith in
    let size : 512 ≡ 512 * i + 512 - 512 * i = omega arith in
    let at : image (8 + (8 * place + i)) ≡ take (512 * i + 512 - 512 * i) (drop (512 * i) bytes) = ap image row ∙ sym (are i c.loop-i-test.true) ∙ ap (λ n. take n (drop (512 * i) bytes)) size in
    let behind : length (drop (512 * i) bytes) ≡ length bytes - 512 * i = length-drop (512 * i) bytes in
    let long : 4096 * (i + 1) ≡ 4096 * i + 8 * length (take (512 * i + 512 - 512 * i) (drop (512 * i) bytes)) = omega (arith, length-take (512 * i + 512 - 512 * i) (drop (512 * i) bytes)) in
    let from : 4096 * (8 * place + i) ≡ 32768 * place + 4096 * i = omega arith in
    bits_behind g image nodes (32768 * place) (4096 * i) (4096 * (8 * place + i)) (8 * length (take (512 * i + 512 - 512 * i) (drop (512 * i) bytes))) (4096 * (i + 1)) c.args.list.now c.loop-i.list c.compare_bitmap.new.self
    from long (c.loop-i.invariant g image nodes taken are) (c.in_ok-compare_bitmap.ensures g image nodes taken at)
