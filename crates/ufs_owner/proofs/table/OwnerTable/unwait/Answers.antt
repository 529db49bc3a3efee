use Rattle.std.proofs.Common.{ap, sym, ◌∙◌, arith, filter}
use Rattle.std.specs.FinMap as map
use Rattle.ufs_owner.specs.Clients.{is_another}
use Rattle.ufs_owner.specs.declared.owner.Standing.{Standing}
use Rattle.ufs_owner.specs.Owners.{Owners, standing_at, waiting_at, nothing_known, with_waiting}
use Rattle.std.specs.Prelude.{unwrap_or}
use Rattle.ufs_owner.proofs.KeptLemmas.{out_one, with_one, standing_after, known_put}
use Rattle.ufs_owner.proofs.StepLemmas.{counts_stay, known_some, none_of, none_waited}
use Rattle.ufs_owner.proofs.table.OwnerTable.unwait.Goals as goal

pub forget_unknown-requires : goal.forget_unknown-requires
forget_unknown-requires c = known_put c.self.inside.records.files c.drop_client.new.self.files c.args.file _ c.drop_client.ensures.files

pub invariant_of-self : goal.invariant_of-self
invariant_of-self c =
    let was = known_some (map.get c.self.inside.records.files c.args.file) (sym c.has.ensures ∙ c.if-not-has.false) in
    let own = ap (λ o. (unwrap_or o nothing_known).owner) was.1 in
    let next : Standing = record (standing_at c.self.inside.records.files c.args.file) { waiting = filter (is_another c.args.client) (waiting_at c.self.inside.records.files c.args.file) } in
    counts_stay c.self.inside.records c.self.inside.spare c.self.inside.out c.self.inside.workers c.self.invariant c.args.file c.forget_unknown.new.self was.0 was.1 next
    (ap out_one (sym own)) (λ w. ap (with_one w) (sym own))
    (c.forget_unknown.ensures.files ∙ standing_after c.self.inside.records.files c.drop_client.new.self.files c.args.file next c.drop_client.ensures.files)
    (omega (arith, c.drop_client.ensures.room, c.forget_unknown.ensures.room, c.self.invariant.room))

pub returns-then-not-has : goal.returns-then-not-has
returns-then-not-has c =
    let files = ap (λ o. o.files) c.self.view_is in
    let none = none_of _ (sym c.has.ensures ∙ c.if-not-has.true) in
    ap (λ files. record { files = files; spare = c.args.self.now.spare })
    (sym (ap (λ m. with_waiting m c.args.file (filter (is_another c.args.client) (waiting_at m c.args.file))) (sym files) ∙ none_waited c.self.inside.records.files c.args.file (is_another c.args.client) none ∙ files))

pub returns : goal.returns
returns c =
    let next : Standing = record (standing_at c.self.inside.records.files c.args.file) { waiting = filter (is_another c.args.client) (waiting_at c.self.inside.records.files c.args.file) } in
    ap (λ files. record { files = files; spare = c.self.inside.spare })
    (c.forget_unknown.ensures.files ∙ standing_after c.self.inside.records.files c.drop_client.new.self.files c.args.file next c.drop_client.ensures.files)
    ∙ ap (λ (o : Owners). record { files = with_waiting o.files c.args.file (filter (is_another c.args.client) (waiting_at o.files c.args.file)); spare = o.spare }) c.self.view_is
