use Rattle.std.proofs.Common.{ap, sym, ◌∙◌, arith, ◌≡◌, ◌++◌, ◌∷◌, [], List, ℕ}
use Rattle.std.specs.FinMap as map
use Rattle.ufs_owner.specs.declared.owner.Owner.TheVariants.{Primary}
use Rattle.ufs_owner.proofs.StepLemmas.{kept_waits, kept_awaited, none_of}
use Rattle.ufs_owner.proofs.table.OwnerTable.wait.Goals as goal

pub invariant_of-self : goal.invariant_of-self
invariant_of-self c =
    kept_waits c.self.inside.records c.self.inside.spare c.self.inside.out c.self.inside.workers c.self.invariant c.args.file c.add_client.new.self (sym c.has.ensures ∙ c.if-has.true) c.args.client c.add_client.result c.add_client.ensures.ok c.add_client.ensures.err
    (omega (arith, c.add_client.ensures.room, c.self.invariant.room))

pub invariant_of-self-2 : goal.invariant_of-self-2
invariant_of-self-2 c =
    let absent = none_of _ (sym c.has.ensures ∙ c.if-has.false) in
    let clients : c.push.new.self ≡ c.args.client ∷ [] = c.in_ok-push.ensures.ok ∙ ap (λ xs. xs ++ c.args.client ∷ []) c.new-waiting.ensures in
    kept_awaited c.self.inside.records c.self.inside.spare c.self.inside.out c.self.inside.workers c.self.invariant c.args.file c.insert.new.self absent (c.args.client ∷ []) (λ e. cc)
    (c.insert.ensures.files
    ∙ ap (λ m. map.insert m c.args.file (record { owner = Primary; note = 0; waiting = c.push.new.self })) c.in_ok-reserve.ensures.files
    ∙ ap (λ (xs : List ℕ). map.insert c.self.inside.records.files c.args.file (record { owner = Primary; note = 0; waiting = xs })) clients)
    (omega (arith, c.insert.ensures.room, c.in_ok-reserve.ensures.ok))
