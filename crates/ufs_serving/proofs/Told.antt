-- What is told of a request that was served.
use Rattle.std.proofs.Common.{◌≡◌, ◌<◌, ℕ, true, Option, Some, None, refl, sym, ap, ◌∙◌, subst}
use Rattle.std.specs.Prelude.{IsSome}
use Rattle.std.specs.FinMap as fin
use Rattle.ufs_file.specs.Hand.{IsEntryOf}
use Rattle.ufs_held.specs.Asking.{IsAnswered}
use Rattle.ufs_joint.specs.Cells.{Start, View}
use Rattle.ufs_joint.specs.FileHands.{own_desc}
use Rattle.ufs_model.specs.FileCalls.{is_on_file}
use Rattle.ufs_model.specs.declared.data.Actor.{Actor}
use Rattle.ufs_model.specs.declared.data.Ask.{Ask}
use Rattle.ufs_model.specs.declared.data.Desc.{Desc}
use Rattle.ufs_model.specs.declared.data.Entry.{Entry}
use Rattle.ufs_model.proofs.Facts.Lookups.{same_some}
use Rattle.ufs_msg.specs.Answers.{IsTold}
use Rattle.ufs_msg.specs.Requests.{HasClientAlone, IsAsked}
use Rattle.ufs_msg.specs.There.{IsByHint, IsClientThere, IsServerThere}
use Rattle.ufs_hand_laws.specs.Parts.{ClientPart}
use Rattle.ufs_serving.proofs.Asked.{IsOnFd, hint_on_file, on_fd}

module _ (k : Start) (ask : Ask) (before : View) (asked : IsAsked k ask before) (on_file : is_on_file ask.op ≡ true) (by : Actor) (here : IsServerThere k by) (entry : Entry) (desc : Option Desc) (some : IsSome desc)
    (of : IsEntryOf ask by entry.ticket entry) (after : ClientPart) (answered : IsAnswered asked.self entry desc after) (guest : View) (back : HasClientAlone ask.client after guest) where
  on : IsOnFd entry.op
  on = subst IsOnFd (sym of.asked) (on_fd ask.op on_file)

  desc_then : (o : Option Desc) → desc ≡ o → IsSome o → desc ≡ own_desc after.fds (Some on.fd)
  desc_then None is none = absurd cc
  desc_then (Some d) is so = is ∙ sym (ap (λ (p : ClientPart). fin.get p.fds on.fd) answered.is ∙ answered.this on.fd d on.named is)

  pub told_on_file : IsTold k entry desc (Some by) None guest
  told_on_file = record {
    mine = subst (IsClientThere k) (sym of.client) asked.there;
    self = after;
    alone = subst (λ (c : ℕ). HasClientAlone c after guest) (sym of.client) back;
    low = subst (λ (c : ℕ). c < 16) (sym of.client) asked.low;
    before = asked.self.entries;
    last = ap (λ (p : ClientPart). p.entries) answered.is;
    seq = of.seq ∙ asked.seq;
    few = subst (λ (n : ℕ). n < 65536) (sym of.seq) asked.few;
    idle = ap (λ (p : ClientPart). p.asked) answered.is;
    by = subst (IsServerThere k) (sym of.server) here;
    desc_is = desc_then desc refl some ∙ ap (own_desc after.fds) (sym (on.told entry.reply));
    owned = λ d file _ _. refl;
    unowned = λ none. (let e = on.told entry.reply in absurd cc);
    there = λ a is. subst (IsServerThere k) (same_some by a is) here;
    granted = λ l is. absurd cc;
    unleased = ap (λ (p : ClientPart). p.copies) answered.is ∙ asked.unleased;
  }

pub told : (k : Start) (ask : Ask) (before : View) (asked : IsAsked k ask before) → IsByHint ask → (by : Actor) → IsServerThere k by → (entry : Entry) (desc : Option Desc) → IsSome desc → IsEntryOf ask by entry.ticket entry → (after : ClientPart) → IsAnswered asked.self entry desc after → (guest : View) → HasClientAlone ask.client after guest → IsTold k entry desc (Some by) None guest
told k ask before asked hinted = told_on_file k ask before asked (hint_on_file ask.op hinted.kind)
