-- How many requests a workload has.
use Rattle.std.proofs.Common.{◌≡◌, ◌+◌, ◌*◌, ◌∙◌, ℕ, zero, suc, List, length, take, drop, map, refl, length-append, length-drop, arith}
use Rattle.std.specs.List.{sum_by}
use Rattle.std.proofs.lemmas.List.{length-map, length-take-le}
use Rattle.std.proofs.lemmas.List.Sums.{sum_by-cons}
use Rattle.ufs_model.specs.declared.data.Op.{Op}
use Rattle.ufs_bench.specs.Workload.{clients_from, first_requests, request_of, requests_of, words_each}

requests_length : (client : ℕ) (words : List ℕ) → length words ≡ words_each → length (requests_of client words) ≡ 2000
requests_length client words is =
    let parts = length-append (first_requests client) (map (request_of client) words) in
    let mapped = length-map words (request_of client) in
    omega (arith, parts, mapped, is)

pub clients_length : (left client : ℕ) (words : List ℕ) → length words ≡ left * words_each → sum_by (λ (requests : List Op). length requests) (clients_from left client words) ≡ left * 2000
unfolding clients_from
clients_length zero client words is = refl
clients_length (suc left) client words is =
    let own = requests_length client (take words_each words) (length-take-le words_each words (omega (arith, is))) in
    let rest = clients_length left (client + 1) (drop words_each words) (length-drop words_each words ∙ omega (arith, is)) in
    let parts = sum_by-cons (λ (requests : List Op). length requests) (requests_of client (take words_each words)) (clients_from left (client + 1) (drop words_each words)) in
    omega (arith, parts, own, rest)
