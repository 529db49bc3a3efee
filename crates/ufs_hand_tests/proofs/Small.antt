-- Each step of the small session may be taken.
use Rattle.std.proofs.Common.{◌≡◌, ℕ, ◌+◌, true, false, [], ◌∷◌, Some, is_some, sym, refl, ap, ◌∙◌, inl, arith}
use Rattle.std.specs.Prelude.{◌||◌}
use Rattle.std.specs.List.{list_any}
use Rattle.std.specs.Ordering.{nat_cmp}
use Rattle.std.specs.FinMap as fin
use Rattle.ufs_model.specs.PosixTree.{PosixTree, IsTree, root_alone, is_node_of}
use Rattle.ufs_model.specs.declared.data.Actor.TheVariants.{Primary}
use Rattle.ufs_model.specs.declared.data.Op.TheVariants.{Sync}
use Rattle.ufs_model.specs.declared.data.PartName.TheVariants.{Client, File}
use Rattle.ufs_model.specs.declared.data.Reply.TheVariants.{Excused}
use Rattle.ufs_model.specs.declared.data.Excuse.TheVariants.{Memory}
use Rattle.ufs_hand_laws.specs.declared.fresh.Fresh.{Fresh}
use Rattle.ufs_model.proofs.Facts.Held.{open_by}
use Rattle.ufs_hand_laws.specs.ByImages.{by_images}
use Rattle.ufs_hand_laws.specs.Parts.{ClientPart, NamesPart, View, Word, kept_of, given_of, both_of}
use Rattle.ufs_hand_laws.specs.Draws.{Leaves, IsIn, MayDraw, drawn}
use Rattle.ufs_hand_laws.specs.Clock.{looked, at_clock, ticked}
use Rattle.ufs_hand_laws.specs.Marks.{IsSingle}
use Rattle.ufs_hand_laws.specs.Rule.{MayTick}
use Rattle.ufs_hand_laws.specs.Whole.{CanOpen, HoldsAll, idle_client, idle_asked}
use Rattle.ufs_hand_laws.specs.First.{new_names, new_store, primary_pool}
use Rattle.ufs_hand_laws.proofs.First.{blind_opens}
use Rattle.ufs_hand_laws.proofs.Drawable.{memory_may_draw}
use Rattle.ufs_hand.specs.Session.{first_view, CanBegin, HoldsPool, IsEvent}
use Rattle.ufs_hand_tests.specs.Small.{least, small, asked}

abbrev can : CanOpen by_images small new_names (new_store least [])
can = blind_opens least 1 []

pub begins : CanBegin small
begins = record { names = new_names; store = new_store least []; can = can }

pub asks : IsEvent small (first_view small) asked
asks = inl (record { client = 0; request = Sync; may = record { self = idle_client; client = inl refl; before = idle_asked; asked = inl refl; idle = refl; room = omega arith; copies = []; kept = λ l h. h }; is = refl })

-- the client was split off and joined again, and then the pool
abbrev pub with_client : ℕ → View
with_client n = both_of (kept_of (Client 0) (asked n)) (given_of (Client 0) (asked n))

abbrev pub joined : ℕ → View
joined n = both_of (kept_of (File primary_pool) (with_client n)) (given_of (File primary_pool) (with_client n))

pub has_pool : (n : ℕ) → HoldsPool (File primary_pool) (with_client n)
has_pool n = omega arith

abbrev asking : ClientPart
asking = record idle_client { asked = Some Sync }

abbrev pub left : Leaves
left = record { fds = fin.empty; files = []; names = (tt, new_names) ∷ [] }

abbrev pub fresh : Fresh
fresh = record { client = 0; seq = 0; by = Primary; op = Sync; reply = Excused Memory }

module _ (n : ℕ) where
  single : IsSingle (joined n)
  single = record { files = λ g. omega arith; names = omega arith; store = omega arith }

  pub draws : MayDraw fresh (joined n) left []
  draws = memory_may_draw 0 0 Primary Sync (joined n) single asking (inl refl) (omega arith) refl refl

  module _ (ticket : ℕ) where
    abbrev answered : View
    answered = drawn ticket fresh left (joined n)

    pub ticks : MayTick 5 answered
    ticks = record { names = new_names; has = refl; room = omega arith }

    module _ (read last : Word) where
      abbrev names_then : NamesPart
      names_then = at_clock (read.clock + 5) new_names

      abbrev pub at_end : View
      at_end = looked last (ticked read 5 new_names answered)

      no_file : (t : PosixTree) → IsTree t → IsIn at_end t → (f : ℕ) → is_some (fin.get t.bytes f) ≡ false
      no_file t is within f =
          is.live f
          ∙ (λ j. list_any (is_node_of f) (fin.values (sym (within.paths tt names_then (inl refl)) j)) || open_by t.fds root_alone.fds f (λ c. sym (within.holds tt names_then (inl refl) c f) ∙ sym (can.free c f)) j)
          ∙ sym (can.tree.live f) ∙ ap is_some (fin.get-empty nat_cmp f)

      pub has_all : HoldsAll small at_end
      has_all = record {
        clients = λ c. omega arith;
        names = names_then;
        has_names = refl;
        store = new_store least [];
        has_store = refl;
        files = λ t is within f there. absurd (both (sym there ∙ no_file t is within f));
      }
        where
          both : true ≡ false → ⊥
          both e = cc
