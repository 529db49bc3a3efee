-- A write of a file's block, by the trees of what a crash leaves.
use Rattle.std.proofs.Common.{◌≡◌, ◌⊎◌, inl, inr, ⊎_elim, ℕ, suc, ◌+◌, ◌*◌, ◌<◌, ◌≤◌, List, [], ◌∷◌, length, Option, Some, None, false, ap, sym, refl, ◌∙◌, subst, arith}
use Rattle.std.specs.Prelude.{◌/◌, ◌%◌, flat_map, slice_get}
use Rattle.std.specs.Option.{option_map}
use Rattle.std.specs.FinMap as map
use Rattle.std.proofs.lemmas.List.{length-take-le}
use native.Mathlib.Decide.{ℕ_discrete}
use Rattle.ufs_base.specs.Images.{Image}
use Rattle.ufs_disk.specs.Disk.{Cell, State, IsImage, IsPartlyWritten, Leaves}
use Rattle.ufs_layout.specs.declared.geometry.Geometry.{Geometry}
use Rattle.ufs_image.specs.Images.{IsImageOf, block_at}
use Rattle.ufs_image.specs.Opens.{opens}
use Rattle.ufs_image.proofs.Blocks.{block_same}
use Rattle.ufs_image.proofs.Lists.{IsIn}
use Rattle.ufs_model.specs.PosixTree.{Paths}
use Rattle.ufs_model.specs.declared.data.Node.{Node}
use Rattle.ufs_model.specs.declared.data.Node.TheVariants.{Dir, File}
use Rattle.ufs_crash_laws.specs.FileChanges.{byte_at}
use Rattle.ufs_ledger.specs.Ledger.{IsDataBlock, Ledger, IsLeft}
use Rattle.ufs_ledger.specs.Changes.{rewritten, written}
use Rattle.ufs_ledger.specs.Kept.{Numbers, Shape, shape_of}
use Rattle.ufs_ledger.specs.Laws.{MayWrite}
use Rattle.ufs_ledger.proofs.Mixing.{IsEither, block_either, byte_taken, elsewhere}
use Rattle.ufs_ledger.proofs.Shapes.{Pick, content_of, IsAt, at_place, blocks_length}
use Rattle.ufs_ledger.proofs.States.{on_one, writing}
use Rattle.ufs_ledger.proofs.Writing.{apart_of}
use Rattle.ufs_hand_laws.specs.Parts.{Cells, StorePart, View}
use Rattle.ufs_hand_laws.specs.Shown.{node_of, nodes_of}
use Rattle.ufs_hand_laws.specs.Commits.{IsWrittenBack}
use Rattle.ufs_hand_laws.specs.Meets.{IsFileWrittenBy, AreFilesWrittenBy}
use Rattle.ufs_store_steps.specs.Steps.{IsBefore, WritesItsFiles, WritesGo}
use Rattle.ufs_store_steps.proofs.Within.{left_within}
use Rattle.ufs_store_steps.proofs.Cells.{ImageGoes, cells_go}
use Rattle.ufs_store_steps.proofs.Shows.{shown_node, its_blocks, content_same, file_content, ShowsFiles, nodes_at, shows_files}
use Rattle.ufs_store_steps.proofs.Stands.{was_left, was_within, was_shown, was_sound, goes_by}

-- ---- places

-- where a block is held, if at all
found_at : (block : ℕ) (bs : List ℕ) → ((place : ℕ) × (slice_get bs place ≡ Some block)) ⊎ (IsIn block bs → ⊥)
found_at block [] = inr (λ h. h)
found_at block (b ∷ bs) = by (ℕ_discrete block b) (found_at block bs)
  where
    by : Dec (block ≡ b) → ((place : ℕ) × (slice_get bs place ≡ Some block)) ⊎ (IsIn block bs → ⊥) → ((place : ℕ) × (slice_get (b ∷ bs) place ≡ Some block)) ⊎ (IsIn block (b ∷ bs) → ⊥)
    by (yes e) rest = inl (0, ap Some (sym e))
    by (no ne) (inl p) = inl (suc p.0, p.1)
    by (no ne) (inr none) = inr (λ h. ⊎_elim ne none h)

module _ (pick : Pick) (shape : Shape) (long : (b : ℕ) → IsIn b shape.holds → length (pick b) ≡ 4096) (room : shape.size ≤ 4096 * length shape.holds) where
  fits : shape.size ≤ length (flat_map pick shape.holds)
  fits = let whole = blocks_length pick shape.holds long in omega (arith, whole, room)

  content_length : length (content_of pick shape) ≡ shape.size
  content_length = length-take-le shape.size (flat_map pick shape.holds) fits

  content_at : (place : ℕ) → place < shape.size → IsAt pick shape.holds place
  content_at place less = at_place pick shape.holds long place (omega (arith, less, room))

  content_is : (place : ℕ) (less : place < shape.size) → byte_at (content_of pick shape) place ≡ byte_at (pick (content_at place less).block) (place % 4096)
  content_is place less = sym (byte_taken (flat_map pick shape.holds) shape.size place fits less) ∙ (content_at place less).is

-- ---- one image

module _ (g : Geometry) (sectors : ℕ) (old : State) (l : Ledger) (n : Numbers) (paths : Paths) (one : Cells) (block : ℕ) (bytes : List ℕ) (v : View) (s : StorePart) (is : IsBefore g sectors old l n paths one)
    (whole : Leaves (IsImageOf sectors) old) (used : l.superblock.clean ≡ false) (may : MayWrite l block bytes) (inside : 8 * block + 8 ≤ sectors) (writes : WritesItsFiles v s l.now n block bytes) (image : Image) (part : IsPartlyWritten (8 * block) bytes old image) where
  before : Image
  before = part.before

  left : IsLeft sectors l.superblock (rewritten block bytes l.blocks) l.now image
  left = on_one sectors (written block bytes l) image is.none (writing sectors old l block bytes whole is.none used is.ledger may image part)

  x : ShowsFiles sectors part.before l.now n paths
  x = was_shown g sectors old l n paths one is part.before part.left

  y : ShowsFiles sectors image l.now n paths
  y = shows_files g sectors l.superblock (rewritten block bytes l.blocks) l.now image left is.geometry n paths is.files

  block_else : (b : ℕ) → (b ≡ block → ⊥) → block_at image b ≡ block_at part.before b
  block_else b ne = sym (block_same part.before image b (λ k of. elsewhere block bytes part.before image may.size part.mixed k (apart_of block b k ne of)))

  either : IsEither 8 (block_at part.before block) bytes (block_at image block)
  either = block_either block bytes part.before image may.size
      (λ k of. let at = of.same in let low = of.in_block in (whole part.before part.left k (omega (arith, at, low, inside))).sized) part.mixed

  module _ (file : ℕ) where
    abbrev shape : Shape
    shape = shape_of l.now.catalog (n.inode file)

    long_at : (i : Image) (blocks : ℕ → Cell) → IsLeft sectors l.superblock blocks l.now i → (b : ℕ) → IsIn b (shape_of l.now.catalog (n.inode file)).holds → length (block_at i b) ≡ 4096
    long_at i blocks its b at =
        let k = its_blocks g l.now n paths is.files (was_sound g sectors old l n paths one is) file b at in
        (its.contents b (subst (λ g. IsDataBlock g b) (sym is.geometry) k.0) k.1).size

    room : (shape_of l.now.catalog (n.inode file)).size ≤ 4096 * length (shape_of l.now.catalog (n.inode file)).holds
    room = by (n.inode file) refl
      where
        by : (o : Option ℕ) → n.inode file ≡ o → (shape_of l.now.catalog o).size ≤ 4096 * length (shape_of l.now.catalog o).holds
        by None e = omega arith
        by (Some inode) e = (was_sound g sectors old l n paths one is).room inode (is.files.inodes file inode e).0

    long_new : (b : ℕ) → IsIn b (shape_of l.now.catalog (n.inode file)).holds → length (block_at image b) ≡ 4096
    long_new = long_at image (rewritten block bytes l.blocks) left

    long_old : (b : ℕ) → IsIn b (shape_of l.now.catalog (n.inode file)).holds → length (block_at part.before b) ≡ 4096
    long_old = long_at part.before l.blocks (was_left g sectors old l n paths one is part.before part.left)

    untouched : (IsIn block (shape_of l.now.catalog (n.inode file)).holds → ⊥) → file_content image l.now n file ≡ file_content part.before l.now n file
    untouched none = content_same (block_at image) (block_at part.before) (shape_of l.now.catalog (n.inode file)) (λ b at. block_else b (λ e. none (subst (λ k. IsIn k (shape_of l.now.catalog (n.inode file)).holds) e at)))

    -- one place holds a block
    one_place : (p q : ℕ) → slice_get (shape_of l.now.catalog (n.inode file)).holds p ≡ Some block → slice_get (shape_of l.now.catalog (n.inode file)).holds q ≡ Some block → p ≡ q
    one_place p q a b = by (n.inode file) refl a b
      where
        by : (o : Option ℕ) → n.inode file ≡ o → slice_get (shape_of l.now.catalog o).holds p ≡ Some block → slice_get (shape_of l.now.catalog o).holds q ≡ Some block → p ≡ q
        by None e a b = cc
        by (Some inode) e a b =
            let ranged = (is.files.inodes file inode e).0 in
            ((was_sound g sectors old l n paths one is).blocks_once inode inode p q block (record { in_range = ranged; there = a }) (record { in_range = ranged; there = b })).1

    module _ (p : ℕ) (there : slice_get (shape_of l.now.catalog (n.inode file)).holds p ≡ Some block) where
      size_new : length (file_content image l.now n file) ≡ (shape_of l.now.catalog (n.inode file)).size
      size_new = content_length (block_at image) (shape_of l.now.catalog (n.inode file)) long_new room

      size_old : length (file_content part.before l.now n file) ≡ (shape_of l.now.catalog (n.inode file)).size
      size_old = content_length (block_at part.before) (shape_of l.now.catalog (n.inode file)) long_old room

      byte : (place : ℕ) → place < (shape_of l.now.catalog (n.inode file)).size
          → (byte_at (file_content image l.now n file) place ≡ byte_at (file_content part.before l.now n file) place) ⊎ (byte_at (file_content image l.now n file) place ≡ byte_at (writes file p there).0.bytes place)
      byte place less = by (ℕ_discrete at.block block)
        where
          at : IsAt (block_at image) (shape_of l.now.catalog (n.inode file)).holds place
          at = content_at (block_at image) (shape_of l.now.catalog (n.inode file)) long_new room place less

          was : IsAt (block_at part.before) (shape_of l.now.catalog (n.inode file)).holds place
          was = content_at (block_at part.before) (shape_of l.now.catalog (n.inode file)) long_old room place less

          new_is : byte_at (file_content image l.now n file) place ≡ byte_at (block_at image at.block) (place % 4096)
          new_is = content_is (block_at image) (shape_of l.now.catalog (n.inode file)) long_new room place less

          old_is : byte_at (file_content part.before l.now n file) place ≡ byte_at (block_at part.before at.block) (place % 4096)
          old_is = content_is (block_at part.before) (shape_of l.now.catalog (n.inode file)) long_old room place less
              ∙ ap (λ b. byte_at (block_at part.before b) (place % 4096)) (let e : was.block ≡ at.block = (let a = was.there in let b = at.there in cc) in e)

          by : Dec (at.block ≡ block)
              → (byte_at (file_content image l.now n file) place ≡ byte_at (file_content part.before l.now n file) place) ⊎ (byte_at (file_content image l.now n file) place ≡ byte_at (writes file p there).0.bytes place)
          by (no ne) = inl (new_is ∙ ap (λ b. byte_at b (place % 4096)) (block_else at.block ne) ∙ sym old_is)
          by (yes e) =
              let in_it : (place % 4096) < 4096 = omega arith in
              let q : place / 4096 ≡ p = one_place (place / 4096) p (at.there ∙ ap Some e) there in
              let whole' : 4096 * p + place % 4096 ≡ place = (let d : 4096 * (place / 4096) + place % 4096 ≡ place = omega arith in ap (λ k. 4096 * k + place % 4096) (sym q) ∙ d) in
              let w = (writes file p there).3 (place % 4096) in_it (subst (λ k. k < (shape_of l.now.catalog (n.inode file)).size) (sym whole') less) in
              ⊎_elim (λ a. inl (new_is ∙ ap (λ b. byte_at (block_at image b) (place % 4096)) e ∙ a ∙ sym (old_is ∙ ap (λ b. byte_at (block_at part.before b) (place % 4096)) e)))
              (λ a. inr (new_is ∙ ap (λ b. byte_at (block_at image b) (place % 4096)) e ∙ a ∙ w ∙ ap (byte_at (writes file p there).0.bytes) whole')) (either.each (place % 4096) (omega arith))

      back : IsWrittenBack (file_content part.before l.now n file) (file_content image l.now n file) (writes file p there).0.bytes
      back = record { size = size_new ∙ sym size_old; each = λ place less. byte place (let e = size_new in omega (arith, less, e)) }

  at_path : (path : List ℕ) (o : Option Node) → map.get paths path ≡ o → (map.get (nodes_of y.tree) path ≡ map.get (nodes_of x.tree) path) ⊎ IsFileWrittenBy v s paths (nodes_of x.tree) (nodes_of y.tree) path
  at_path path o e = by o e
    where
      alike : shown_node (file_content image l.now n) (map.get paths path) ≡ shown_node (file_content part.before l.now n) (map.get paths path) → map.get (nodes_of y.tree) path ≡ map.get (nodes_of x.tree) path
      alike same = nodes_at sectors image l.now n paths y path ∙ ap (option_map node_of) same ∙ sym (nodes_at sectors part.before l.now n paths x path)

      by : (o : Option Node) → map.get paths path ≡ o → (map.get (nodes_of y.tree) path ≡ map.get (nodes_of x.tree) path) ⊎ IsFileWrittenBy v s paths (nodes_of x.tree) (nodes_of y.tree) path
      by None e = inl (alike (ap (shown_node (file_content image l.now n)) e ∙ sym (ap (shown_node (file_content part.before l.now n)) e)))
      by (Some Dir) e = inl (alike (ap (shown_node (file_content image l.now n)) e ∙ sym (ap (shown_node (file_content part.before l.now n)) e)))
      by (Some (File file)) e = of (found_at block (shape_of l.now.catalog (n.inode file)).holds)
        where
          of : ((place : ℕ) × (slice_get (shape_of l.now.catalog (n.inode file)).holds place ≡ Some block)) ⊎ (IsIn block (shape_of l.now.catalog (n.inode file)).holds → ⊥)
              → (map.get (nodes_of y.tree) path ≡ map.get (nodes_of x.tree) path) ⊎ IsFileWrittenBy v s paths (nodes_of x.tree) (nodes_of y.tree) path
          of (inr none) = inl (alike (ap (shown_node (file_content image l.now n)) e ∙ ap (λ b. Some (Some b)) (untouched file none) ∙ sym (ap (shown_node (file_content part.before l.now n)) e)))
          of (inl p) = inr (record {
            file = file;
            part = (writes file p.0 p.1).0;
            held = (writes file p.0 p.1).1;
            lent = (writes file p.0 p.1).2;
            named = e;
            old = file_content part.before l.now n file;
            was = nodes_at sectors part.before l.now n paths x path ∙ ap (λ o. option_map node_of (shown_node (file_content part.before l.now n) o)) e;
            new = file_content image l.now n file;
            is = nodes_at sectors image l.now n paths y path ∙ ap (λ o. option_map node_of (shown_node (file_content image l.now n) o)) e;
            back = back file p.0 p.1;
          })

  pub write_goes : (from : Image) × IsImage old from × ImageGoes sectors (AreFilesWrittenBy v s paths) from image
  write_goes = (part.before, part.left, goes_by sectors part.before image l.now l.now n n paths paths (AreFilesWrittenBy v s paths) x y (λ path. at_path path (map.get paths path) refl))

  pub write_within : (again : Image) → ((k : ℕ) → k < sectors → image k ≡ again k) → opens sectors again ≡ opens sectors image
  write_within again same = left_within sectors l.superblock (rewritten block bytes l.blocks) l.now image again left same

pub writes_go : (g : Geometry) → WritesGo g
writes_go g sectors old new l n paths one other block bytes v s is are whole used may inside writes leaves =
    cells_go sectors old new one other is.told are (was_within g sectors old l n paths one is)
    (λ image again left same. write_within g sectors old l n paths one block bytes v s is whole used may inside writes image (leaves image left) again same) (AreFilesWrittenBy v s paths)
    (λ image left. write_goes g sectors old l n paths one block bytes v s is whole used may inside writes image (leaves image left))
