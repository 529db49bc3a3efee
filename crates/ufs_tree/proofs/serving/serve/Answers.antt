use Rattle.std.proofs.Common.{List, sym, ◌∙◌, subst}
use Rattle.ufs_model.specs.declared.data.Op.{Op}
use Rattle.ufs_tree.proofs.ServeLemmas.{AreServing, one_client_more, all_served, no_items}
use Rattle.ufs_tree.proofs.serving.serve.Goals as goal

pub loop-requests-preserved : goal.loop-requests-preserved
loop-requests-preserved c =
    let rest = c.next.new.self.rest.items in
    let e = c.in_ok-serve_client.ensures in
    let so_far = subst (λ (r : List (List Op)). AreServing c.args.clients c.loop-requests.tree c.loop-requests.history c.loop-requests.client c.loop-requests.yielded r) c.in-Some.ensures.steps.0 c.loop-requests.invariant in
    one_client_more c.args.clients c.loop-requests.tree c.serve_client.new.tree c.loop-requests.history c.serve_client.new.history c.loop-requests.client c.loop-requests.yielded rest c.in-Some.requests
    so_far e.few e.next e.legal e.unexcused e.state e.ordered e.own e.others

pub returns-clause-complete : goal.returns-clause-complete
returns-clause-complete c =
    let rest = c.loop-requests.requests-iterator.rest in
    let none = no_items rest.items (sym rest.ok.0 ∙ c.in-None.ensures.steps.0) in
    all_served c.args.clients c.loop-requests.tree c.loop-requests.history c.loop-requests.client c.loop-requests.yielded
    (subst (λ (rest : List (List Op)). AreServing c.args.clients c.loop-requests.tree c.loop-requests.history c.loop-requests.client c.loop-requests.yielded rest) none c.loop-requests.invariant)
