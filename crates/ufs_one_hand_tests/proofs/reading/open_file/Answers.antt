use Rattle.std.proofs.Common.{[], ◌∷◌, ℕ, List, true, false, None, Some, refl, inl, sym, subst}
use Rattle.ufs_model.specs.declared.data.Actor.TheVariants.{Primary}
use Rattle.ufs_model.specs.declared.data.Op.TheVariants.{OpenFile}
use Rattle.ufs_model.specs.declared.data.Reply.TheVariants.{Fd}
use Rattle.ufs_one_hand.specs.Apart.{HasEachFile}
use Rattle.ufs_one_hand.specs.Drawn.{IsAnswer}
use Rattle.ufs_one_hand.specs.OneHand.{HasSession}
use Rattle.ufs_hand_laws.specs.Draws.{entry_of}
use Rattle.ufs_hand_laws.specs.declared.fresh.Fresh.{Fresh}
use Rattle.ufs_one_hand_tests.proofs.TwoFiles.{left, opens_answers}
use Rattle.ufs_one_hand_tests.proofs.reading.open_file.Goals as goal

-- the entry of such an `open`
abbrev opens_at : List ℕ → Fresh
opens_at path = record { client = 0; seq = 0; by = Primary; op = OpenFile path true false false false false false; reply = Fd 3 }

pub draw-requires : goal.draw-requires
draw-requires g c =
    let k = g.N.Naming.start in
    let asked = subst (λ (p : List ℕ). HasSession k [] (Some (0, (opens_at p).op)) c.ask.new.self) c.requires.path (c.ask.ensures.session [] c.requires.session) in record {
      answer = ([], subst (λ (p : List ℕ). IsAnswer k [] k.tree (opens_at p) left c.ask.new.self) (sym c.requires.path) (opens_answers k c.requires.start c.ask.new.self asked));
      alike = record { alike = inl refl; seen = λ visible. refl };
    }

pub returns : goal.returns
returns g c =
    let k = g.N.Naming.start in
    let asked = subst (λ (p : List ℕ). HasSession k [] (Some (0, (opens_at p).op)) c.ask.new.self) c.requires.path (c.ask.ensures.session [] c.requires.session) in
    let answer = subst (λ (p : List ℕ). IsAnswer k [] k.tree (opens_at p) left c.ask.new.self) (sym c.requires.path) (opens_answers k c.requires.start c.ask.new.self asked) in
    record {
      session = subst (λ (p : List ℕ). HasSession k (entry_of c.draw.result (opens_at p) ∷ []) None c.draw.new.self) c.requires.path (c.draw.ensures.session [] answer);
      apart = λ files each. subst (λ (p : List ℕ). HasEachFile k (entry_of c.draw.result (opens_at p) ∷ []) c.draw.new.self files) c.requires.path (c.draw.ensures.apart [] files answer (c.ask.ensures.apart [] files each));
    }
