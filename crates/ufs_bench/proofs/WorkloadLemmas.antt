-- The clients' requests, client by client.
use Rattle.std.proofs.Common.{◌≡◌, ◌+◌, ◌*◌, ◌++◌, ℕ, suc, List, [], ◌∷◌, map, refl, ap, ap₂, sym, ◌∙◌, length, length-append, append-nil, append_assoc, arith}
use Rattle.std.proofs.lemmas.List.{map-append, length-map}
use Rattle.rand_pcg.specs.Lcg.{Lcg}
use Rattle.rand_pcg.specs.Pcg.{pcg32}
use Rattle.ufs_model.specs.declared.data.Op.{Op}
use Rattle.ufs_bench.specs.Generator.{after_words, next_words}
use Rattle.ufs_bench.specs.Workload.{clients_from, first_requests, request_of, requests_of, words_each}
use Rattle.ufs_bench.proofs.GeneratorLemmas.{front_words, later_words, length_words, no_words, one_more}

-- a client's first requests, of so many words
abbrev pub made : ℕ → ℕ → Lcg → List Op
made client n g = first_requests client ++ map (request_of client) (next_words n g)

pub made_none : (client : ℕ) (g : Lcg) → first_requests client ≡ made client 0 g
made_none client g = sym (ap (λ ws. first_requests client ++ map (request_of client) ws) (no_words g) ∙ append-nil (first_requests client))

pub made_more : (client n : ℕ) (g : Lcg) → made client n g ++ request_of client (pcg32 (after_words n g)).0 ∷ [] ≡ made client (n + 1) g
made_more client n g =
    append_assoc (first_requests client) (map (request_of client) (next_words n g)) (request_of client (pcg32 (after_words n g)).0 ∷ [])
    ∙ ap (λ ops. first_requests client ++ ops) (sym (map-append (request_of client) (next_words n g) ((pcg32 (after_words n g)).0 ∷ [])) ∙ ap (map (request_of client)) (sym (one_more n g)))

pub made_length : (client n : ℕ) (g : Lcg) → length (made client n g) ≡ 5 + n
made_length client n g = length-append (first_requests client) (map (request_of client) (next_words n g)) ∙ ap (λ k. 5 + k) (length-map (next_words n g) (request_of client) ∙ length_words n g)

-- one client more: it takes the next words, and the others those behind
pub client_more : (left client : ℕ) (g : Lcg)
    → clients_from (suc left) client (next_words (words_each + left * words_each) g) ≡ requests_of client (next_words words_each g) ∷ clients_from left (client + 1) (next_words (left * words_each) (after_words words_each g))
unfolding clients_from
client_more left client g = ap₂ (λ (a b : List ℕ). requests_of client a ∷ clients_from left (client + 1) b) (front_words words_each (left * words_each) g) (later_words words_each (left * words_each) g)

times_more : (left : ℕ) → suc left * words_each ≡ words_each + left * words_each
times_more left = omega arith

pub one_more_times : (n : ℕ) → n * words_each + words_each ≡ (n + 1) * words_each
one_more_times n = omega arith

-- the same of so many clients
pub client_at : (left count client : ℕ) (g : Lcg) → count ≡ suc left
    → clients_from count client (next_words (count * words_each) g) ≡ requests_of client (next_words words_each g) ∷ clients_from left (client + 1) (next_words (left * words_each) (after_words words_each g))
client_at left count client g is =
    ap (λ k. clients_from k client (next_words (k * words_each) g)) is ∙ ap (λ k. clients_from (suc left) client (next_words k g)) (times_more left) ∙ client_more left client g

pub no_clients : (client : ℕ) (words : List ℕ) → clients_from 0 client words ≡ []
unfolding clients_from
no_clients client words = refl
