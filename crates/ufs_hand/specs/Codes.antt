-- The codes by which starts and sessions are told apart.
use Rattle.std.specs.Prelude.{Bool, refl}
use Rattle.std.specs.Coded.{Coded, code_by, coded×, coded_bool}
use Rattle.atomic_table.specs.Seated.{TableId, table_id_coded}
use Rattle.ufs_model.specs.PosixTree.{PosixTree, tree_code}
use Rattle.ufs_hand_laws.specs.Codes.{view_code}
use Rattle.ufs_hand_laws.specs.Parts.{Start, View}
use Rattle.ufs_hand.specs.Session.{Session}

abbrev pub start_code : Coded Start
start_code = code_by (PosixTree × (View × Bool)) (coded× tree_code (coded× view_code coded_bool)) (λ k. (k.tree, (k.view, k.is_visible))) (λ p. record { tree = p.0; view = p.1.0; is_visible = p.1.1 }) (λ _. refl)

abbrev pub session_code : Coded Session
session_code = code_by (TableId × Start) (coded× table_id_coded start_code) (λ s. (s.table, s.start)) (λ p. record { table = p.0; start = p.1 }) (λ _. refl)
