-- Each answer is by the client itself, or by a server that is there, and so is each that sent its request on. Where no worker is there,
-- that is the primary.
use Rattle.std.proofs.Common.{◌≡◌, ◌≤◌, ◌⊎◌, ℕ, inl, inr, ⊎_elim, Bool, true, false, List, [], ◌∷◌, ◌++◌, refl, sym, ap, ◌∙◌, subst, arith}
use Rattle.std.specs.Prelude.{if◌then◌else◌}
use Rattle.ufs_client.specs.Own.{AreServedFrom, is_own, server_of}
use Rattle.ufs_joint.specs.Cells.{Start}
use Rattle.ufs_joint.specs.Servers.{AreServedSo, IsServer}
use Rattle.ufs_model.specs.History.{goes_on}
use Rattle.ufs_model.specs.PosixTree.{PosixTree}
use Rattle.ufs_model.specs.declared.data.Actor.{Actor}
use Rattle.ufs_model.specs.declared.data.Actor.TheVariants as actor
use Rattle.ufs_model.specs.declared.data.Entry.{Entry}
use Rattle.ufs_msg.specs.There.{IsServerThere, MayHaveServed, worker_count}
use Rattle.ufs_hand_laws.specs.Owned.{Has}
use Rattle.ufs_hand_laws.proofs.Owning.{has_append}
use Rattle.ufs_caller.specs.Lists.{IsListed}
use Rattle.ufs_caller.specs.Tied.{AreListedThere, AreMadeThere, IsMadeThere}
use Rattle.ufs_caller.specs.declared.told.Told.{Told}

pub made_more : (k : Start) (number : ℕ) (told told' : List Told) (x : Told) → told' ≡ told ++ x ∷ [] → IsMadeThere k number x → AreMadeThere k number told → AreMadeThere k number told'
made_more k number told told' x is one made y has = ⊎_elim
    (λ (old : Has y told). made y old)
    (⊎_elim (λ (new : y ≡ x). subst (IsMadeThere k number) (sym new) one) (λ none. absurd none))
    (has_append y told (x ∷ []) (subst (Has y) is has))

-- ---- who sent it on

pub none_listed : (k : Start) (via : List Actor) → via ≡ [] → AreListedThere k via
none_listed k via none server has = absurd (subst (Has server) none has)

pub listed_there : (k : Start) (via next : List Actor) (to : Actor) → IsListed via to next → AreListedThere k via → IsServerThere k to → AreListedThere k next
listed_there k via next to listed there its server has = ⊎_elim more (λ (same : next ≡ via). there server (subst (Has server) same has)) listed.may
  where
    more : next ≡ via ++ to ∷ [] → IsServerThere k server
    more is = ⊎_elim
        (λ (old : Has server via). there server old)
        (⊎_elim (λ (new : server ≡ to). subst (IsServerThere k) (sym new) its) (λ none. absurd none))
        (has_append server via (to ∷ []) (subst (Has server) is has))

-- ---- with no worker

alone : (k : Start) → worker_count k ≡ 0 → (who : Actor) → IsServerThere k who → who ≡ actor.Primary
alone k none actor.Primary is = refl
alone k none (actor.Worker worker) is = (let low = is.0 in let high = is.1 in absurd (omega (arith, low, high, none)))
alone k none (actor.Client client) is = absurd is

pub by_the_primary : (k : Start) → worker_count k ≡ 0 → (t : PosixTree) (history : List Entry) → AreServedSo t history → ((e : Entry) → Has e history → MayHaveServed k e.client e.by) → AreServedFrom t history
by_the_primary k none t [] served made = tt
by_the_primary k none t (e ∷ history) served made =
    (by (is_own t e.client e.op) refl (made e (inl refl)), by_the_primary k none (goes_on t e) history served.1 (λ x has. made x (inr has)))
  where
    serves : (own : Bool) → is_own t e.client e.op ≡ own → server_of t e.client e.op ≡ (if own then actor.Client e.client else actor.Primary)
    serves own is = ap (λ (b : Bool). if b then actor.Client e.client else actor.Primary) is

    by : (own : Bool) → is_own t e.client e.op ≡ own → MayHaveServed k e.client e.by → e.by ≡ server_of t e.client e.op
    by true is its = served.0.own is ∙ sym (serves true is)
    by false is (inl its) = absurd (subst IsServer its (served.0.sent is))
    by false is (inr its) = alone k none e.by its ∙ sym (serves false is)
