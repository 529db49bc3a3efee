-- How the answer of a part is that of the whole.
use Rattle.std.proofs.Common.{◌≡◌, inl, inr, ℕ, List, ◌++◌, Option, sym, subst, refl, ◌∙◌}
use Rattle.std.specs.Io.KnownBytes.{Appends}
use Rattle.ufs_base.specs.Wanting.{wanting}
use Rattle.ufs_base.specs.Faults.{raised}
use Rattle.ufs_script.specs.Script.{IsOutside}
use Rattle.ufs_script.specs.declared.fault.ScriptFault.{ScriptFault}
use Rattle.ufs_script.specs.declared.fault.ScriptFault.TheVariants as fault
use Rattle.ufs_command.specs.declared.ending.Ending.{Ending}
use Rattle.ufs_command.specs.declared.ending.Ending.TheVariants.{OutOfMemory}
use Rattle.ufs_command.specs.Seen.{Reading, Writing}
use Rattle.ufs_command.specs.Endings.{IsAnswer, IsLine, IsFixed, IsBreakLine, TellsFault, EndsUnread}
use Rattle.ufs_command.specs.Unscheduled.{BreaksUnscheduled}
use Rattle.ufs_print.proofs.WriteLemmas.{appends_both, front_behind}

-- what is allowed there is allowed here
pub answer_map : (E F : Ending → List ℕ → Type 0) (w : Writing) (status : ℕ) → ((ending : Ending) (text : List ℕ) → E ending text → F ending text)
    → IsAnswer E w status → IsAnswer F w status
answer_map E F w status f a = record {
  whole = λ n. let x = a.whole n in (x.0, x.1, x.2, f x.0 x.1 x.3, x.4);
  told = a.told;
  rose = a.rose;
  cut = λ n. let x = a.cut n in (x.0, x.1, x.2, f x.0 x.1 x.3, x.4, x.5);
}

-- one line that is allowed
pub answer_line : (E : Ending → List ℕ → Type 0) (wanted : Ending) (line : List ℕ) (w : Writing) (status : ℕ) → E wanted line → IsAnswer (IsLine wanted line) w status → IsAnswer E w status
answer_line E wanted line w status allowed a =
    answer_map (IsLine wanted line) E w status (λ ending text is. subst (λ (e : Ending). E e text) (sym is.0) (subst (E wanted) (sym is.1) allowed)) a

-- the last line, after a front that was written
pub answer_after : (wanted : Ending) (line front : List ℕ) (E : Ending → List ℕ → Type 0) (old mid new : Option (List ℕ)) (before between now status : ℕ)
    → Appends old mid front → between ≡ before → E wanted (front ++ line)
    → IsAnswer (IsLine wanted line) (record { held = mid; holds = new; before = between; now = now }) status
    → IsAnswer E (record { held = old; holds = new; before = before; now = now }) status
answer_after wanted line front E old mid new before between now status wrote same allowed a = record {
  whole = λ n.
      let w = a.whole n in
      (w.0, front ++ w.1, w.2, there w.0 w.1 w.3, appends_both old mid new front w.1 wrote w.4);
  told = λ n. a.told n ∙ same;
  rose = λ n. subst (λ (k : ℕ). now ≡ raised k) same (a.rose n);
  cut = λ n.
      let w = a.cut n in
      (w.0, front ++ w.1, front ++ w.2, there w.0 w.1 w.3, front_behind front w.2 w.1 w.4, appends_both old mid new front w.2 wrote w.5);
}
  where
    there : (ending : Ending) (text : List ℕ) → IsLine wanted line ending text → E ending (front ++ text)
    there ending text is = subst (λ (e : Ending). E e (front ++ text)) (sym is.0) (subst (λ (t : List ℕ). E wanted (front ++ t)) (sym is.1) allowed)

-- there was no memory for a line
pub no_memory : (r : Reading) (ending : Ending) (text : List ℕ) → IsFixed OutOfMemory ending text → EndsUnread r ending text
no_memory r ending text e = subst (λ (x : Ending). EndsUnread r x text) (sym e.0) e.1

-- a break is told, or there was no memory for its line
pub break_told : (r : Reading) (f : ScriptFault) → BreaksUnscheduled r.left r.rest f → (¬ IsOutside f) → (ending : Ending) (text : List ℕ) → IsBreakLine f ending text → EndsUnread r ending text
break_told r f read inside ending text (inl e) = subst (λ (x : Ending). EndsUnread r x text) (sym e.0) (f, read, inside, e.1)
break_told r f read inside ending text (inr e) = no_memory r ending text e

-- a fault that is neither the source's nor want of memory is a break
pub inside : (f : ScriptFault) → (f ≡ fault.Memory wanting → ⊥) → (f ≡ fault.Source → ⊥) → ¬ IsOutside f
inside (fault.NoClient line) m s = λ out. out
inside (fault.BadWord line) m s = λ out. out
inside (fault.BadNumber line) m s = λ out. out
inside (fault.BadData line) m s = λ out. out
inside (fault.TooMany line) m s = λ out. out
inside (fault.TooLong line) m s = λ out. out
inside (fault.NoEnd line) m s = λ out. out
inside (fault.AfterEnd line) m s = λ out. out
inside (fault.NotBuilt line) m s = λ out. out
inside fault.Source m s = absurd (s refl)
inside (fault.Memory _) m s = absurd (m refl)

-- why there is no script is told
pub fault_told : (r : Reading) (f : ScriptFault) → (f ≡ fault.Source → r.now ≡ raised r.before) → ((¬ IsOutside f) → BreaksUnscheduled r.left r.rest f) → (ending : Ending) (text : List ℕ) → TellsFault f ending text → EndsUnread r ending text
fault_told r f rose read ending text (inl e) = no_memory r ending text e.1
fault_told r f rose read ending text (inr (inl e)) = subst (λ (x : Ending). EndsUnread r x text) (sym e.1.0) (rose e.0, e.1.1)
fault_told r f rose read ending text (inr (inr e)) = break_told r f (read e.0) e.0 ending text e.1
