use Rattle.std.proofs.Common.{◌≡◌, ◌∙◌, ◌++◌, ◌∷◌, [], ℕ, List, length, ap, ap₂, sym, arith}
use Rattle.rand_pcg.specs.Lcg.{Lcg}
use Rattle.rand_pcg.specs.Pcg.{pcg32}
use Rattle.ufs_model.specs.declared.data.Op.{Op}
use Rattle.ufs_bench.specs.Generator.{after_words}
use Rattle.ufs_bench.specs.Workload.{request_of}
use Rattle.ufs_bench.proofs.GeneratorLemmas.{after_none, after_one_more}
use Rattle.ufs_bench.proofs.WorkloadLemmas.{made_length, made_more, made_none}
use Rattle.ufs_bench.proofs.clients.requests_of.Goals as goal

pub loop-made-init : goal.loop-made-init
loop-made-init c = record {
  rng = sym (after_none c.args.rng.now);
  list = c.in_ok-requests.ensures ∙ made_none c.args.client c.args.rng.now;
}

pub push-requires-clause-few : goal.push-requires-clause-few
push-requires-clause-few c =
    let long = ap (λ (l : List Op). length l) c.loop-made.invariant.list ∙ made_length c.args.client c.loop-made._made c.args.rng.now in
    let more = c.loop-made-test.true in
    omega (arith, long, more)

pub loop-made-preserved : goal.loop-made-preserved
loop-made-preserved c =
    let n = c.loop-made._made in
    let g : Lcg = c.args.rng.now in
    let stepped = c.next_word-word.ensures in
    let at = c.loop-made.invariant.rng in
    let word : c.next_word-word.result ≡ (pcg32 (after_words n g)).0 = ap (λ (p : ℕ × Lcg). p.0) stepped ∙ ap (λ (x : Lcg). (pcg32 x).0) at in
    let next : c.next_word-word.new.self ≡ (pcg32 (after_words n g)).1 = ap (λ (p : ℕ × Lcg). p.1) stepped ∙ ap (λ (x : Lcg). (pcg32 x).1) at in
    record {
      rng = next ∙ sym (after_one_more n g);
      list = c.in_ok-push.ensures.ok
          ∙ ap₂ (λ (xs : List Op) (x : Op). xs ++ x ∷ []) c.loop-made.invariant.list (c.in_ok-request_of.ensures.value ∙ ap (request_of c.args.client) word)
          ∙ made_more c.args.client n g;
    }
