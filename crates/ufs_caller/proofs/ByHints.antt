-- A request goes to a worker by a hint alone.
use Rattle.std.proofs.Common.{◌≡◌, ℕ, Bool, true, false, cond, Option, Some, None, unwrap_or, sym, refl, ap, ◌∙◌, subst}
use Rattle.ufs_hints.specs.Hints.{hint_of}
use Rattle.ufs_model.specs.declared.data.Actor.{Actor}
use Rattle.ufs_model.specs.declared.data.Actor.TheVariants.{Primary, Worker}
use Rattle.ufs_msg.specs.There.{IsByHint, MayServe, is_by_hint}
use Rattle.ufs_caller.specs.Callers.{file_asked, server_of_file}
use Rattle.ufs_caller.specs.Turns.{WorkersGetByHint, WorkersGetNoNames}

no_worker : (w : ℕ) → Primary ≡ Worker w → ⊥
no_worker w e = cc

hinted : (o : Option Actor) (w : ℕ) → unwrap_or o Primary ≡ Worker w → o ≡ Some (Worker w)
hinted None w e = absurd (no_worker w e)
hinted (Some s) w e = ap (λ (x : Actor). Some x) e

pub by_hints : WorkersGetByHint
by_hints to r kept a b s w is = by (is_by_hint s.request) refl (file_asked a.fds s.request) refl (sym s.server ∙ is)
  where
    by : (k : Bool) → is_by_hint s.request ≡ k → (f : Option ℕ) → file_asked a.fds s.request ≡ f → server_of_file a.hints (cond k f None) ≡ Worker w
        → (is_by_hint s.request ≡ true) × ((file : ℕ) × (file_asked a.fds s.request ≡ Some file) × (hint_of file a.hints ≡ Some (Worker w)))
    by false kind f of e = absurd (no_worker w e)
    by true kind None of e = absurd (no_worker w e)
    by true kind (Some file) of e = (kind, (file, of, hinted (hint_of file a.hints) w e))

pub no_names : WorkersGetNoNames
no_names x r kept a b s w is =
    let may : IsByHint r.ask = subst (λ (to : Actor). MayServe to r.ask) is s.may in
    ap is_by_hint (sym s.ask.asked) ∙ may.kind
