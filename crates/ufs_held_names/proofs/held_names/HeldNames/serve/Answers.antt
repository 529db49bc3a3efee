use Rattle.std.proofs.Common.{◌≡◌, ◌<◌, ◌^◌, ℕ, Bool, true, false, ap, refl, sym, subst}
use Rattle.ufs_joint.specs.Cells.{NamesCell}
use Rattle.ufs_model.specs.History.{is_excused}
use Rattle.ufs_noted.specs.Noted.{Noted}
use Rattle.ufs_held_names.specs.Asked.{IsNamedApart, IsNeeded, number_of}
use Rattle.ufs_held_names.specs.Come.{HasCome}
use Rattle.ufs_held_names.specs.HeldNames.{first_names, noted_in}
use Rattle.ufs_held_names.specs.Drawn.{names_then}
use Rattle.ufs_held_names.proofs.After.{seen_noted}
use Rattle.ufs_held_names.proofs.Births.{births_served}
use Rattle.ufs_held_names.proofs.held_names.HeldNames.serve.Goals as goal

-- what is told of births stays
same_named : (excused : Bool) (was now : NamesCell) (x : Noted) (ticket : ℕ) → (excused ≡ false → now ≡ names_then x ticket was) → (excused ≡ true → now ≡ was) → now.named ≡ was.named
same_named true was now x ticket served kept = ap (λ (c : NamesCell). c.named) (kept refl)
same_named false was now x ticket served kept = ap (λ (c : NamesCell). c.named) (served refl)

pub serve_any-requires-clause-guest : goal.serve_any-requires-clause-guest
serve_any-requires-clause-guest g c =
    let f = c.requires.guest in
    let s = seen_noted c.self.inside.noted c.self.inside.right c.self.invariant.0 c.args.self.now c.self.view_is in
    (f.0, f.1, f.2, f.3, subst (λ (n : Noted). IsNamedApart f.1 n.names.next c.args.file) (sym s) f.4)

pub serve_any-requires-clause-numbers : goal.serve_any-requires-clause-numbers
serve_any-requires-clause-numbers g c =
    let s = seen_noted c.self.inside.noted c.self.inside.right c.self.invariant.0 c.args.self.now c.self.view_is in
    subst (λ (n : Noted). n.names.next < 2 ^ 31) (sym s) c.requires.numbers

pub serve_any-requires-clause-needed : goal.serve_any-requires-clause-needed
serve_any-requires-clause-needed g c =
    let s = seen_noted c.self.inside.noted c.self.inside.right c.self.invariant.0 c.args.self.now c.self.view_is in
    subst (λ (n : Noted). IsNeeded n.names c.args.ask (number_of c.args.file)) (sym s) c.requires.needed

pub returns : goal.returns
returns g c =
    let r = c.serve_any.result in
    let now = first_names c.serve_any.new.noted c.serve_any.new.right.names in
    let t : HasCome c.args.ask c.args.by c.args.self.now now c.args.pool.now c.serve_any.new.pool c.args.file r.file r.made r.entry r.desc c.args.guest r.guest =
    subst (λ (q : NamesCell). HasCome c.args.ask c.args.by q now c.args.pool.now c.serve_any.new.pool c.args.file r.file r.made r.entry r.desc c.args.guest r.guest) c.self.view_is c.serve_any.ensures.came in
    record {
      entry = t.entry;
      guest = t.guest;
      served = t.served;
      names = t.names;
      file = t.file;
      made = t.made;
      lives = t.lives;
      gone = t.gone;
      next = t.next;
      cause = t.cause;
      kept = t.kept;
      kept_file = t.kept_file;
      none_made = t.none_made;
      untaken = t.untaken;
      desc = t.desc;
      no_desc = t.no_desc;
      faultless = t.faultless;
      not_both = t.not_both;
      faults = t.faults;
      later = t.later;
      seen = t.seen;
    }

pub invariant_of-self : goal.invariant_of-self
invariant_of-self g c =
    let x = c.self.inside.noted in
    let r = c.serve_any.result in
    let was = first_names x c.self.inside.right.names in
    let now = first_names c.serve_any.new.noted c.serve_any.new.right.names in
    let t = c.serve_any.ensures.came in (
      c.serve_any.ensures.held,
      c.serve_any.ensures.calm,
      births_served was now r.made c.self.inside.reached r.entry.ticket (same_named (is_excused r.entry.reply) was now (noted_in now) r.entry.ticket t.names t.kept) t.next t.made t.lives c.self.invariant.2,
    )
