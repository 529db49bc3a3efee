-- What was answered are the first ones of the requests that were given.
use Rattle.std.proofs.Common.{◌≡◌, zero, suc, List, [], ◌∷◌, ◌++◌, map, length, take, sym, refl, ◌∙◌}
use Rattle.ufs_caller.specs.Callers.{Caller, entries_in}
use Rattle.ufs_caller.specs.declared.told.Told.{Told}
use Rattle.ufs_gathered.specs.Ended.{AnswerAll, AnswerFirst}
use Rattle.ufs_model.specs.declared.data.Entry.{Entry}
use Rattle.ufs_model.specs.declared.data.Op.{Op}
use Rattle.ufs_rounds.specs.Rest.{AreOver}
use Rattle.ufs_rounds.specs.Scripts.{lists_of, scripts_of, under_way}

front : (told : List Told) (rest : List Op) → map (λ e. e.op) (entries_in told) ≡ take (length (entries_in told)) (map (λ e. e.op) (entries_in told) ++ rest)
front [] rest = refl
front (t ∷ told) rest = λ i. t.entry.op ∷ front told rest i

pub first : (clients : List Caller) → AnswerFirst (scripts_of clients) (lists_of clients)
first [] client = refl
first (c ∷ clients) zero = front c.told (under_way c.errand ++ c.left)
first (c ∷ clients) (suc client) = first clients client

long : (told : List Told) → length (map (λ e. e.op) (entries_in told) ++ []) ≡ length (entries_in told)
long [] = refl
long (t ∷ told) = λ i. suc (long told i)

pub all : (clients : List Caller) → AreOver clients → AnswerAll (scripts_of clients) (lists_of clients)
all [] over client = refl
all (c ∷ clients) over zero =
    let o = over zero c refl in
    sym ((λ i. length (map (λ (e : Entry). e.op) (entries_in c.told) ++ (under_way (o.0 i) ++ o.1 i))) ∙ long c.told)
all (c ∷ clients) over (suc client) = all clients (λ place x at. over (suc place) x at) client
