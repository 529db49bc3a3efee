-- A history told again.
use Rattle.std.proofs.Common.{◌≡◌, ℕ, ◌+◌, List, [], ◌∷◌, false, map, sym, refl, ◌∙◌, subst}
use Rattle.std.specs.List.{AllByRecursion}
use Rattle.ufs_model.specs.History.{goes_on, share_fault, AreFaultsOnce}
use Rattle.ufs_model.specs.declared.data.Entry.{Entry}
use Rattle.ufs_model.specs.declared.data.Excuse.{Excuse}
use Rattle.ufs_model.specs.declared.data.Excuse.TheVariants as excuse
use Rattle.ufs_model.specs.declared.data.Reply.{Reply}
use Rattle.ufs_model.specs.declared.data.Reply.TheVariants as reply
use Rattle.ufs_bytes_laws.specs.Alike.{blank}
use Rattle.ufs_bytes_laws.specs.Redrawn.{redrawn, redrawn_all, blanked}
use Rattle.ufs_bytes_laws.specs.Laws.{HistoriesAreLegal, HistoriesAreAlike, HistoriesEndAlike, WholeHistoriesAreLegal}
use Rattle.ufs_bytes_laws.proofs.EntryLemmas.{replied, blanked_same, goes_on_alike}

pub legal_again : HistoriesAreLegal
legal_again ticket t u [] is so = tt
legal_again ticket t u (entry ∷ history) is so = (
  record { numbered = so.0.numbered; replied = replied t u entry is so.0.replied },
  legal_again (ticket + 1) (goes_on t entry) (goes_on u (redrawn u entry)) history (goes_on_alike t u entry is) so.1,
)

pub alike_again : HistoriesAreAlike
alike_again ticket t u [] is so = refl
alike_again ticket t u (entry ∷ history) is so =
    let rest = alike_again (ticket + 1) (goes_on t entry) (goes_on u (redrawn u entry)) history (goes_on_alike t u entry is) so.1 in
    let first = blanked_same t u entry is so.0.replied in
    λ i. first i ∷ rest i

pub ends_alike : HistoriesEndAlike
ends_alike t u [] is = is
ends_alike t u (entry ∷ history) is = ends_alike (goes_on t entry) (goes_on u (redrawn u entry)) history (goes_on_alike t u entry is)

-- ---- faults are told by excuses, which stay

device_shares : (fault : ℕ) (b : Reply) → share_fault (reply.Excused (excuse.Device fault)) (blank b) ≡ share_fault (reply.Excused (excuse.Device fault)) b
device_shares fault (reply.Got bytes) = refl
device_shares fault _ = refl

excuse_shares : (x : Excuse) (b : Reply) → share_fault (reply.Excused x) (blank b) ≡ share_fault (reply.Excused x) b
excuse_shares (excuse.Device fault) b = device_shares fault b
excuse_shares _ b = refl

shares : (a b : Reply) → share_fault (blank a) (blank b) ≡ share_fault a b
shares (reply.Excused x) b = excuse_shares x b
shares (reply.Got bytes) b = refl
shares _ b = refl

abbrev TellsOther : Reply → List Entry → Type 0
TellsOther r history = AllByRecursion (λ later. share_fault r later.reply ≡ false) history

others_to : (r : Reply) (history : List Entry) → TellsOther r history → TellsOther (blank r) (map blanked history)
others_to r [] so = tt
others_to r (entry ∷ history) so = (shares r entry.reply ∙ so.0, others_to r history so.1)

others_from : (r : Reply) (history : List Entry) → TellsOther (blank r) (map blanked history) → TellsOther r history
others_from r [] so = tt
others_from r (entry ∷ history) so = (sym (shares r entry.reply) ∙ so.0, others_from r history so.1)

once_to : (history : List Entry) → AreFaultsOnce history → AreFaultsOnce (map blanked history)
once_to [] so = tt
once_to (entry ∷ history) so = (others_to entry.reply history so.0, once_to history so.1)

once_from : (history : List Entry) → AreFaultsOnce (map blanked history) → AreFaultsOnce history
once_from [] so = tt
once_from (entry ∷ history) so = (others_from entry.reply history so.0, once_from history so.1)

pub whole_again : WholeHistoriesAreLegal
whole_again t u history is so = record {
  entries = legal_again 0 t u history is so.entries;
  faults = once_from (redrawn_all u history) (subst AreFaultsOnce (alike_again 0 t u history is so.entries) (once_to history so.faults));
}
