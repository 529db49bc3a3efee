use Rattle.std.proofs.Common.{◌≡◌, ◌∙◌, ◌++◌, ◌∷◌, ◌+◌, ◌-◌, ◌*◌, [], suc, List, length, ap, ap₂, sym, arith, append_assoc, append-nil, length-append, rules}
use Rattle.rand_pcg.specs.Lcg.{Lcg}
use Rattle.ufs_model.specs.declared.data.Op.{Op}
use Rattle.ufs_bench.specs.Generator.{after_words, next_words}
use Rattle.ufs_bench.specs.Workload.{clients_from, requests_of, words_each}
use Rattle.ufs_bench.proofs.GeneratorLemmas.{after_none, after_plus}
use Rattle.ufs_bench.proofs.WorkloadLemmas.{client_at, no_clients, one_more_times}
use Rattle.ufs_bench.proofs.clients.clients_of.Goals as goal

pub push-requires : goal.push-requires
push-requires c =
    let count = c.loop-client.invariant.count in
    let more = c.loop-client-test.true in
    omega (arith, count, more)

pub loop-client-init : goal.loop-client-init
loop-client-init c = record {
  whole = search rules;
  rng = sym (after_none c.args.rng.now);
  count = search rules;
}

pub loop-client-preserved : goal.loop-client-preserved
loop-client-preserved c =
    let n = c.loop-client.client in
    let left = 8 - (n + 1) in
    let clients : List (List Op) = c.loop-client.clients in
    let g : Lcg = c.loop-client.rng in
    let more = c.loop-client-test.true in
    let eight : 8 - n ≡ suc left = omega (arith, more) in
    let own : List Op = requests_of n (next_words words_each g) in
    let rest : List (List Op) = clients_from left (n + 1) (next_words (left * words_each) (after_words words_each g)) in
    let pushed : c.push.new.self ≡ clients ++ own ∷ [] = c.in_ok-push.ensures.ok ∙ ap (λ (l : List Op). clients ++ l ∷ []) c.in_ok-requests_of.ensures.value in
    record {
      whole = c.loop-client.invariant.whole
          ∙ ap (λ (r : List (List Op)). clients ++ r) (client_at left (8 - n) n g eight)
          ∙ sym (append_assoc clients (own ∷ []) rest)
          ∙ ap₂ (λ (xs : List (List Op)) (x : Lcg). xs ++ clients_from left (n + 1) (next_words (left * words_each) x)) (sym pushed) (sym c.in_ok-requests_of.ensures.next);
      rng = c.in_ok-requests_of.ensures.next
          ∙ ap (λ (x : Lcg). after_words words_each x) c.loop-client.invariant.rng
          ∙ sym (after_plus (n * words_each) words_each c.args.rng.now)
          ∙ ap (λ k. after_words k c.args.rng.now) (one_more_times n);
      count =
          let long = ap (λ (l : List (List Op)). length l) pushed ∙ length-append clients (own ∷ []) in
          let count = c.loop-client.invariant.count in
          omega (arith, long, count);
    }

pub returns-clause-value : goal.returns-clause-value
returns-clause-value c =
    let n = c.loop-client.client in
    let clients : List (List Op) = c.loop-client.clients in
    let past = c.loop-client-test.false in
    let none : 8 - n ≡ 0 = omega (arith, past) in
    sym (c.loop-client.invariant.whole
    ∙ ap (λ k. clients ++ clients_from k n (next_words (k * words_each) c.loop-client.rng)) none
    ∙ ap (λ (r : List (List Op)). clients ++ r) (no_clients n (next_words (0 * words_each) c.loop-client.rng))
    ∙ append-nil clients)

pub returns-clause-next : goal.returns-clause-next
returns-clause-next c =
    let past = c.loop-client-test.false in
    let most = c.loop-client.auto.client-end in
    let all : c.loop-client.client ≡ 8 = omega (arith, past, most) in
    c.loop-client.invariant.rng ∙ ap (λ k. after_words (k * words_each) c.args.rng.now) all
