use Rattle.std.proofs.Common.{◌≡◌, ◌++◌, ◌∷◌, [], ℕ, List, Option, Some, None, length, arith, refl, ap, sym, subst, ◌∙◌, ◌<◌, ◌≤◌, ◌+◌, rules}
use Rattle.std.specs.List.{flat_map}
use Rattle.ufs_audit.specs.Audit.{text_of}
use Rattle.ufs_audit.specs.Ends.{Reads, OwnAnswers}
use Rattle.ufs_audit.proofs.ReadLemmas.{reads_none, reads_on, reads_as, passes_on}
use Rattle.ufs_audit.proofs.AnswerLemmas.{AreSoFar, so_far_begins, so_far_more, so_far_lacks, so_far_whole, next_client, flat-push}
use Rattle.ufs_audit.proofs.answers.read_answers.Goals as goal

pub loop-requests-init : goal.loop-requests-init
loop-requests-init g c = record {
  same = refl;
  reads = subst (λ (l : List (List (List ℕ))). Reads (g.S.Source.left c.args.source.now) (g.S.Source.left c.args.source.now) c.args.ahead.now c.args.ahead.now c.args.room.now c.args.room.now (flat_map text_of l)) (sym c.new-lists.ensures.items)
      (reads_none (g.S.Source.left c.args.source.now) c.args.ahead.now c.args.room.now);
  so_far = subst (AreSoFar c.args.clients.now 0) (sym c.new-lists.ensures.items) (so_far_begins c.args.clients.now);
  numbered = refl;
}

pub returns-in_err-list-clause-long : goal.returns-in_err-list-clause-long
returns-in_err-list-clause-long g c is =
    let left = g.S.Source.left in
    passes_on (left c.args.source.now) (left c.loop-requests.source) (left c.own_answers.new.source) c.args.ahead.now c.loop-requests.ahead c.own_answers.new.ahead c.args.room.now c.loop-requests.room
    (flat_map text_of c.loop-requests.lists.items) c.loop-requests.invariant.reads (c.in_err-list.ensures.long (search rules))

pub returns-in_default-clause-found : goal.returns-in_default-clause-found
returns-in_default-clause-found g c =
    let left = g.S.Source.left in
    let i = c.loop-requests.invariant in
    let next = next_client c.args.clients.now c.loop-requests.requests-index c.requests-item.result c.loop-requests-test.true c.requests-item.is in
    let own = subst (λ (n : ℕ). OwnAnswers (left c.loop-requests.source) (left c.own_answers.new.source) c.loop-requests.ahead c.own_answers.new.ahead c.loop-requests.room c.own_answers.new.room n c.requests-item.result None) i.numbered
    (subst (λ (o : Option (List (List ℕ))). OwnAnswers (left c.loop-requests.source) (left c.own_answers.new.source) c.loop-requests.ahead c.own_answers.new.ahead c.loop-requests.room c.own_answers.new.room c.loop-requests.client c.requests-item.result o) c.in_default.is c.in_ok-list.ensures.found) in (
      flat_map text_of c.loop-requests.lists.items ++ own.0,
      reads_on (left c.args.source.now) (left c.loop-requests.source) (left c.own_answers.new.source) c.args.ahead.now c.loop-requests.ahead c.own_answers.new.ahead c.args.room.now c.loop-requests.room c.own_answers.new.room
          (flat_map text_of c.loop-requests.lists.items) own.0 i.reads own.1,
      so_far_lacks c.args.clients.now c.loop-requests.requests-index c.loop-requests.lists.items c.requests-item.result (left c.own_answers.new.source) c.own_answers.new.ahead own.0 i.so_far next own.2,
    )

pub loop-requests-preserved : goal.loop-requests-preserved
loop-requests-preserved g c =
    let left = g.S.Source.left in
    let i = c.loop-requests.invariant in
    let next = next_client c.args.clients.now c.loop-requests.requests-index c.requests-item.result c.loop-requests-test.true c.requests-item.is in
    let n = i.numbered in
    let own = subst (λ (n : ℕ). OwnAnswers (left c.loop-requests.source) (left c.own_answers.new.source) c.loop-requests.ahead c.own_answers.new.ahead c.loop-requests.room c.own_answers.new.room n c.requests-item.result (Some c.in-Some.list)) i.numbered
    (subst (λ (o : Option (List (List ℕ))). OwnAnswers (left c.loop-requests.source) (left c.own_answers.new.source) c.loop-requests.ahead c.own_answers.new.ahead c.loop-requests.room c.own_answers.new.room c.loop-requests.client c.requests-item.result o) c.in-Some.is c.in_ok-list.ensures.found) in
    record {
      same = c.in_ok-list.ensures.counted (λ bad. cc) ∙ i.same;
      reads = reads_as (left c.args.source.now) (left c.own_answers.new.source) c.args.ahead.now c.own_answers.new.ahead c.args.room.now c.own_answers.new.room
          (flat_map text_of c.loop-requests.lists.items ++ text_of c.in-Some.list) (flat_map text_of c.push.new.self.items) (sym (flat-push c.loop-requests.lists.items c.in-Some.list) ∙ ap (flat_map text_of) (sym c.in_ok-push.ensures.items))
          (reads_on (left c.args.source.now) (left c.loop-requests.source) (left c.own_answers.new.source) c.args.ahead.now c.loop-requests.ahead c.own_answers.new.ahead c.args.room.now c.loop-requests.room c.own_answers.new.room
          (flat_map text_of c.loop-requests.lists.items) (text_of c.in-Some.list) i.reads own.0);
      so_far = subst (AreSoFar c.args.clients.now (c.loop-requests.requests-index + 1)) (sym c.in_ok-push.ensures.items)
          (so_far_more c.args.clients.now c.loop-requests.requests-index c.loop-requests.lists.items c.requests-item.result c.in-Some.list i.so_far next own.1);
      numbered = omega (arith, n);
    }

pub returns-clause-found : goal.returns-clause-found
returns-clause-found g c =
    let i = c.loop-requests.invariant in
    (i.reads, so_far_whole c.args.clients.now c.loop-requests.requests-index c.loop-requests.lists.items i.so_far c.loop-requests-test.false)
