use Rattle.std.proofs.Common.{◌≡◌, ◌+◌, ◌*◌, ◌/◌, ◌%◌, ◌^◌, ◌∙◌, sym, subst, arith}
use Rattle.atomic_table.specs.Table.{Allows}
use Rattle.ufs_hand_laws.specs.ByImages.{by_images}
use Rattle.ufs_hand_laws.specs.Rule.{clock_step, IsRuled, MayTick, Ticked}
use Rattle.ufs_hand_laws.proofs.Ruling.{tick_keeps}
use Rattle.ufs_hand.proofs.hand.Hand.tick.Goals as goal

pub fetch_add-word-requires : goal.fetch_add-word-requires
fetch_add-word-requires g c =
    let i = c.self.invariant in
    let t = c.table.invariant in
    let w = t.1 in
    let by = c.from.result in
    let me = c.self.inside.seat.me in
    let may : MayTick c.args.by me.0 = rw c.self.view_is c.requires in
    let moved : by * clock_step / clock_step ≡ by = omega arith in (
      i.0 ∙ sym t.0,
      omega arith,
      subst (λ b. Allows (IsRuled by_images c.table.inside.table.shared.key.start) c.table.inside.table.shared.table_id.slots c.self.inside.seat.id me 0 (λ n. (n + by * clock_step) % 2 ^ 64) (Ticked b me))
          (sym moved) (tick_keeps by_images _ _ _ by me (subst (λ b. MayTick b me.0) (sym c.from.ensures) may)),
    )
