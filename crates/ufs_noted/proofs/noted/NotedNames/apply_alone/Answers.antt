use Rattle.std.proofs.Common.{◌≡◌, ℕ, Some, None, false, ap, refl, sym, subst, ◌∙◌}
use Rattle.std.specs.FinMap as map
use Rattle.std.specs.Ordering.{nat_cmp}
use Rattle.ufs_file.specs.Hand.{FileState}
use Rattle.ufs_files.specs.Files.{Files}
use Rattle.ufs_model.specs.Excuses.{ExcuseFits}
use Rattle.ufs_names.specs.Calls.{IsAsked}
use Rattle.ufs_names.specs.Space.{AreApart}
use Rattle.ufs_noted.specs.Noted.{HasApplied, HasServedWith, Noted, one_file}
use Rattle.ufs_noted.proofs.Causes.{caused_by_memory}
use Rattle.ufs_noted.proofs.Left.{made_alone, made_young}
use Rattle.ufs_noted.proofs.Serving.{served_alone}
use Rattle.ufs_noted.proofs.Young.{young_if}
use Rattle.ufs_noted.proofs.noted.NotedNames.apply_alone.Goals as goal

pub returns-in-Err-clause-cause : goal.returns-in-Err-clause-cause
returns-in-Err-clause-cause c x is = (
  c.args.pool.now,
  record { within = λ b here. here; none = λ need had lacks bare. bare },
  caused_by_memory c.args.self.now.names.tree.dirs c.args.pool.now c.args.ask.op c.out_of_memory.result.entry.reply x c.out_of_memory.ensures.reply is,
)

pub apply_lent-applied-requires-clause-asked : goal.apply_lent-applied-requires-clause-asked
apply_lent-applied-requires-clause-asked c = let a = c.requires.asked in (a.0, subst (λ (fs : Files). IsAsked a.0 c.args.self.now.names c.args.ask fs) (sym c.new-files.ensures) a.1)

pub apply_lent-applied-requires-clause-apart : goal.apply_lent-applied-requires-clause-apart
apply_lent-applied-requires-clause-apart c lent within = subst (λ (fs : Files). AreApart c.args.self.now.names.tree.dirs fs lent) (sym c.new-files.ensures) (c.requires.apart lent within)

pub returns-clause-served : goal.returns-clause-served
returns-clause-served c e =
    let a = c.requires.asked in
    let x = c.args.self.now in
    let y = c.apply_lent-applied.new.self in
    let left = c.apply_lent-applied.new.files in
    let reply = c.apply_lent-applied.result.entry.reply in
    let desc = c.apply_lent-applied.result.desc in
    let number = c.self.invariant.0 ∙ ap (λ (n : Noted). n.names.next) c.self.view_is in
    let applied : HasApplied c.args.ask x y map.empty left c.args.pool.now c.apply_lent-applied.new.pool reply desc =
    subst (λ (fs : Files). HasApplied c.args.ask x y fs left c.args.pool.now c.apply_lent-applied.new.pool reply desc) c.new-files.ensures (c.apply_lent-applied.ensures.served e) in
    let file = c.take_out.ensures.value ∙ ap (map.get left) number in
    subst (λ (fs : Files). HasServedWith c.args.ask x y map.empty fs map.empty map.empty c.args.pool.now c.apply_lent-applied.new.pool None reply desc)
    (made_alone x.names y.names c.args.ask left reply desc a.0 a.1 (applied.served a.0 a.1) ∙ ap (one_file x.names.next) (sym file))
    (served_alone c.args.ask x y left c.args.pool.now c.apply_lent-applied.new.pool reply desc applied)

pub returns-clause-none : goal.returns-clause-none
returns-clause-none c e = c.take_out.ensures.value ∙ ap (λ (fs : Files). map.get fs c.self.inside.next) (c.apply_lent-applied.ensures.files e ∙ c.new-files.ensures) ∙ map.get-empty {X = FileState} nat_cmp c.self.inside.next

pub returns-clause-young : goal.returns-clause-young
returns-clause-young c =
    let a = c.requires.asked in
    let x = c.args.self.now in
    let y = c.apply_lent-applied.new.self in
    let left = c.apply_lent-applied.new.files in
    let reply = c.apply_lent-applied.result.entry.reply in
    let desc = c.apply_lent-applied.result.desc in
    let number = c.self.invariant.0 ∙ ap (λ (n : Noted). n.names.next) c.self.view_is in
    let file = c.take_out.ensures.value ∙ ap (map.get left) number in
    young_if x.names.next reply c.take_out.result
    (λ e. c.take_out.ensures.value ∙ ap (λ (fs : Files). map.get fs c.self.inside.next) (c.apply_lent-applied.ensures.files e ∙ c.new-files.ensures) ∙ map.get-empty {X = FileState} nat_cmp c.self.inside.next)
    (λ e s is.
    let applied : HasApplied c.args.ask x y map.empty left c.args.pool.now c.apply_lent-applied.new.pool reply desc =
    subst (λ (fs : Files). HasApplied c.args.ask x y fs left c.args.pool.now c.apply_lent-applied.new.pool reply desc) c.new-files.ensures (c.apply_lent-applied.ensures.served e) in
    made_young x.names y.names c.args.ask left reply desc a.0 a.1 (applied.served a.0 a.1) s (sym file ∙ is))

pub returns-clause-fits : goal.returns-clause-fits
returns-clause-fits c x is t asked = c.apply_lent-applied.ensures.fits x is t (subst (λ (fs : Files). IsAsked t c.args.self.now.names c.args.ask fs) (sym c.new-files.ensures) asked)
