use Rattle.std.proofs.Common.{◌≡◌, ℕ, ap, sym, subst, ◌∙◌}
use Rattle.ufs_bitmap.specs.Blocks.{BlockSet}
use Rattle.ufs_joint.specs.Cells.{Start, View, both_of, given_of, kept_of}
use Rattle.ufs_joint.specs.Ends.{HoldsAll}
use Rattle.ufs_model.specs.declared.data.PartName.TheVariants.{File, Store}
use Rattle.ufs_joint_tests.specs.Small.{small_start, small_view}
use Rattle.ufs_turns.specs.HeldStore.{IsHeldStore}
use Rattle.ufs_turns_tests.specs.Seats.{IsSeat}
use Rattle.ufs_turns_tests.proofs.Lending.{all_gathered, held, seat_0, seat_1, seat_2, seat_3}
use Rattle.ufs_turns_tests.proofs.threads.run_shared.Goals as goal

pub new-requires-clause-home : goal.new-requires-clause-home
new-requires-clause-home g c =
    let n = c.args.names.now in
    let s = g.D.Door.store c.args.store in
    let first = c.named-table.ensures ∙ ap (λ (k : Start). k.view) c.requires.start in
    subst (λ (x : Start × View). IsHeldStore x.0 g.N.Naming.origin g.D.Door.visible g.D.Door.keeps x.1 s) (λ j. (sym c.requires.start j, sym (c.split-own.ensures.given ∙ ap (given_of Store) first) j)) (held n s g.N.Naming.origin g.D.Door.visible g.D.Door.keeps c.requires.formed)

pub give_seat-one-requires : goal.give_seat-one-requires
give_seat-one-requires g c =
    let first = c.named-table.ensures ∙ ap (λ (k : Start). k.view) c.requires.start in
    let k0 = c.split-own.ensures.kept ∙ ap (kept_of Store) first in
    subst (λ (x : BlockSet × View). IsSeat 0 x.0 (given_of (File 0) x.1)) (λ j. (sym c.args.pools.none.0 j, sym k0 j)) (seat_0 c.args.names.now (g.D.Door.store c.args.store))

pub give_seat-two-requires : goal.give_seat-two-requires
give_seat-two-requires g c =
    let first = c.named-table.ensures ∙ ap (λ (k : Start). k.view) c.requires.start in
    let k0 = c.split-own.ensures.kept ∙ ap (kept_of Store) first in
    let k1 = c.give_seat-one.ensures.kept ∙ ap (kept_of (File 0)) k0 in
    subst (λ (x : BlockSet × View). IsSeat 1 x.0 (given_of (File 1) x.1)) (λ j. (sym c.args.pools.none.1 j, sym k1 j)) (seat_1 c.args.names.now (g.D.Door.store c.args.store))

pub give_seat-three-requires : goal.give_seat-three-requires
give_seat-three-requires g c =
    let first = c.named-table.ensures ∙ ap (λ (k : Start). k.view) c.requires.start in
    let k0 = c.split-own.ensures.kept ∙ ap (kept_of Store) first in
    let k1 = c.give_seat-one.ensures.kept ∙ ap (kept_of (File 0)) k0 in
    let k2 = c.give_seat-two.ensures.kept ∙ ap (kept_of (File 1)) k1 in
    subst (λ (x : BlockSet × View). IsSeat 2 x.0 (given_of (File 2) x.1)) (λ j. (sym c.args.pools.none.2 j, sym k2 j)) (seat_2 c.args.names.now (g.D.Door.store c.args.store))

pub give_seat-four-requires : goal.give_seat-four-requires
give_seat-four-requires g c =
    let first = c.named-table.ensures ∙ ap (λ (k : Start). k.view) c.requires.start in
    let k0 = c.split-own.ensures.kept ∙ ap (kept_of Store) first in
    let k1 = c.give_seat-one.ensures.kept ∙ ap (kept_of (File 0)) k0 in
    let k2 = c.give_seat-two.ensures.kept ∙ ap (kept_of (File 1)) k1 in
    let k3 = c.give_seat-three.ensures.kept ∙ ap (kept_of (File 2)) k2 in
    subst (λ (x : BlockSet × View). IsSeat 3 x.0 (given_of (File 3) x.1)) (λ j. (sym c.args.pools.none.3 j, sym k3 j)) (seat_3 c.args.names.now (g.D.Door.store c.args.store))

pub close-tickets-requires-clause-all : goal.close-tickets-requires-clause-all
close-tickets-requires-clause-all g c =
    let n = c.args.names.now in
    let s = g.D.Door.store c.args.store in
    let first = c.named-table.ensures ∙ ap (λ (k : Start). k.view) c.requires.start in
    let k0 = c.split-own.ensures.kept ∙ ap (kept_of Store) first in
    let k1 = c.give_seat-one.ensures.kept ∙ ap (kept_of (File 0)) k0 in
    let k2 = c.give_seat-two.ensures.kept ∙ ap (kept_of (File 1)) k1 in
    let k3 = c.give_seat-three.ensures.kept ∙ ap (kept_of (File 2)) k2 in
    let k4 = c.give_seat-four.ensures.kept ∙ ap (kept_of (File 3)) k3 in
    let told = c.all_turns-one.ensures in
    let one = c.leave-one.result in
    let two = c.leave-two.result in
    let three = c.leave-three.result in
    let four = c.leave-four.result in
    let own = c.into_parts-own.result.0 in
    let seat_a = subst (λ (m : ℕ). IsSeat m one.1 one.0) (told.one ∙ c.give_seat-one.ensures.number) c.leave-one.ensures in
    let seat_b = subst (λ (m : ℕ). IsSeat m two.1 two.0) (told.two ∙ c.give_seat-two.ensures.number) c.leave-two.ensures in
    let seat_c = subst (λ (m : ℕ). IsSeat m three.1 three.0) (told.three ∙ c.give_seat-three.ensures.number) c.leave-three.ensures in
    let seat_d = subst (λ (m : ℕ). IsSeat m four.1 four.0) (told.four ∙ c.give_seat-four.ensures.number) c.leave-four.ensures in
    let home = subst (λ (k : Start). IsHeldStore k g.N.Naming.origin g.D.Door.visible g.D.Door.keeps own (g.D.Door.store c.into_parts-own.result.1)) c.requires.start c.into_parts-own.ensures.home in
    let all = c.join-5.ensures ∙ ap (λ (v : View). both_of v own) (c.join-4.ensures ∙ ap (λ (v : View). both_of v four.0) (c.join-3.ensures ∙ ap (λ (v : View). both_of v three.0) (c.join-2.ensures ∙ ap (λ (v : View). both_of v two.0) (c.join.ensures ∙ ap (λ (v : View). both_of v one.0) k4)))) in
    subst (λ (x : Start × View). HoldsAll x.0 x.1) (λ j. (sym c.requires.start j, sym all j))
    (all_gathered n s c.requires.part g.N.Naming.origin g.D.Door.visible g.D.Door.keeps one.0 two.0 three.0 four.0 own (g.D.Door.store c.into_parts-own.result.1) one.1 two.1 three.1 four.1 seat_a seat_b seat_c seat_d home)
