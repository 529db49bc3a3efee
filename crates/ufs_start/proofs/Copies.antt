-- What a server begins with on a copy of what the names of an image use, it begins with on the image.
use Rattle.std.proofs.Common.{◌≡◌, ℕ, ◌<◌, List, [], Bool, true, false, length, map, ap, sym, refl, ◌∙◌, subst, arith}
use Rattle.std.proofs.lemmas.Bool.{and_parts, ltb-true}
use Rattle.std.specs.Prelude.{Result, Ok, Err, IfOk, IfErr, IsTrue}
use Rattle.ufs_base.specs.Images as images
use Rattle.ufs_image.specs.Agree.{AgreeOn, IsMetadata}
use Rattle.ufs_image.specs.Catalog.{catalog_at}
use Rattle.ufs_image.specs.Fold.{folded}
use Rattle.ufs_image.specs.Journal.{committed}
use Rattle.ufs_image.specs.Images.{inode_at}
use Rattle.ufs_image.specs.Nodes.{blocks_of, dirs_of, sound_nodes}
use Rattle.ufs_image.specs.Opens.{ImageTree, opens}
use Rattle.ufs_image.specs.Standing.{IsVolumeOf}
use Rattle.ufs_image.specs.Volume.{Refusal, Volume, superblock_of, volume_of}
use Rattle.ufs_image.proofs.Journals.{committed_same, taken}
use Rattle.ufs_image.proofs.Opening.{opens_to}
use Rattle.ufs_damage.specs.Findings.{CatalogRead}
use Rattle.ufs_hand.specs.declared.rule.Parts.{Parts}
use Rattle.ufs_layout.specs.Areas.{all_inodes, is_data_sector, sector_count}
use Rattle.ufs_layout.specs.InodeForm.{InodeForm}
use Rattle.ufs_layout.specs.declared.geometry.Geometry.{Geometry}
use Rattle.ufs_layout.specs.declared.records.Committed.{Committed}
use Rattle.ufs_layout.specs.declared.superblock.Super.{Super}
use Rattle.ufs_ledger.specs.Kept.{paths_of}
use Rattle.ufs_promise_laws.specs.Starts.{image_start}
use Rattle.ufs_names.specs.NamesPart.{IsNamesPart}
use Rattle.ufs_promise_laws.specs.Loaded.{AreRead}
use Rattle.ufs_promise_laws.specs.Numbered.{IsNumberedAs}
use Rattle.ufs_promise_laws.specs.TreeParts.{IsNamesOf}
use Rattle.ufs_promise_laws.proofs.Started.{image_is_tree, image_part}
use Rattle.ufs_file.specs.Content.{block_count}
use Rattle.ufs_files.specs.Files.{AreFilesOf}
use Rattle.ufs_one_hand.specs.OneHand.{start_with}
use Rattle.ufs_opening.proofs.Lengths.{file_sized}
use Rattle.ufs_start.specs.Begun.{IsBegun, catalog_under, image_under, session_start, tree_or, tree_under, volume_under}
use Rattle.ufs_start.specs.Copies.{AreAlike, AreOpenedAlike, IsCopyOf, image_seen, sectors_taken}
use Rattle.ufs_start.specs.Refused.{TellsNoStart}
use Rattle.ufs_start.specs.Starts.{IsLoaded}
use Rattle.ufs_start.specs.declared.fault.StartFault.{StartFault}
use Rattle.ufs_start.specs.declared.fault.StartFault.TheVariants.{Image, Unreached, Unnamed, ExtraBlocks}
use Rattle.ufs_start.specs.declared.parts.Start.{Start}
use Rattle.ufs_start.proofs.Alike.{IsUsedHere, form_same, metadata_here}
use Rattle.ufs_start.proofs.Beginning.{few_files}
use Rattle.ufs_start.proofs.Counterparts.{cut_off_there, free_there, laid_there, named_there, names_there, none_cut_there, read_there, unnamed_there, unread_there}
use Rattle.ufs_start.proofs.Lengths.{folded_alike}
use Rattle.ufs_start.proofs.Named.{files_are}
use Rattle.ufs_start.proofs.Trees.{next_alike, paths_alike, why_alike}
use Rattle.ufs_start.proofs.Volumes.{IsThere, all_copied, home_there, opens_there, standing_there, volume_sized}

module _ (copied sectors : ℕ) (copy image : images.Image) (is : IsCopyOf copied copy sectors image) where
  -- ---- a start

  module _ (s : Start) (begun : IsBegun copied copy s) where
    there : (other : images.Image) × IsThere sectors image (volume_under s.superblock copy) other × IsVolumeOf sectors image (record (volume_under s.superblock copy) { image = other }) (catalog_at s.superblock.geometry other)
    there = standing_there copied sectors copy image is (volume_under s.superblock copy) begun.standing

    other_is : there.0 ≡ image_under s.superblock image
    other_is =
        let same = (taken sectors image (record (volume_under s.superblock copy) { image = there.0 }) there.1.taken).same in
        let supers : s.superblock.superblock ≡ superblock_of image = ap (λ (u : Volume). u.superblock) same in
        ap (λ (u : Volume). u.image) same
        ∙ sym (ap (λ (x : Super). (volume_of x image).image) supers)
        ∙ sym (ap (λ (g : Geometry). folded g (committed g s.superblock.superblock.epoch image) image) s.superblock.same)

    agree : AgreeOn (IsUsedHere s.superblock.geometry (image_under s.superblock copy)) (image_under s.superblock copy) (image_under s.superblock image)
    agree = subst (AgreeOn (IsUsedHere s.superblock.geometry (image_under s.superblock copy)) (image_under s.superblock copy)) other_is there.1.agree

    standing : IsVolumeOf sectors image (volume_under s.superblock image) (catalog_under s.superblock image)
    standing = subst (λ (i : images.Image). IsVolumeOf sectors image (record (volume_under s.superblock copy) { image = i }) (catalog_at s.superblock.geometry i)) other_is there.2

    -- the same is committed over sectors of the same lengths
    sized : (sector : ℕ) → is_data_sector s.superblock.geometry sector ≡ true → length (image_under s.superblock image sector) ≡ 512
    sized sector within =
        let h = s.superblock in
        let g = h.geometry in
        let v = volume_under h copy in
        let here = sym (volume_sized copied sectors copy image is) ∙ begun.standing.taken in
        let all = all_copied copied sectors copy image is v here in
        let less = ltb-true sector (sector_count g) (and_parts _ _ within).1 in
        let home : AgreeOn (IsMetadata g) copy image = λ s before. home_there copied sectors copy image is v here s (metadata_here g h.limits v.image s before) in
        let same = committed_same g (IsMetadata g) (λ s before. before) copy image home h.superblock.epoch in
        ap (λ (cs : List Committed). length (folded g cs image sector)) (sym same)
        ∙ sym (folded_alike g sector within (committed g h.superblock.epoch copy) copy image (is.sized sector (omega (arith, less, all))))
        ∙ begun.sized sector within

    opened : opens sectors image ≡ Ok (tree_under s.superblock image)
    opened = opens_to sectors image (volume_under s.superblock image) (catalog_under s.superblock image) standing

    alike : AreAlike (tree_under s.superblock copy) (tree_under s.superblock image)
    alike = subst (AreOpenedAlike (Ok (tree_under s.superblock copy))) opened (subst (λ (r : Result ImageTree Refusal). AreOpenedAlike r (opens sectors image)) begun.opened (opens_there copied sectors copy image is))

    -- the names are of the same paths
    table : IsNamesOf s.superblock.geometry (catalog_under s.superblock image) (image_start (tree_under s.superblock image)) s.names
    table =
        let h = s.superblock in
        let of = names_there h.geometry h.limits (image_under h copy) (image_under h image) agree begun.standing.sound (image_start (tree_under h copy)) s.names begun.table in
        record {
          dirs = of.dirs;
          numbers = subst (IsNumberedAs (catalog_under h image) s.names.tree) (paths_alike (tree_under h copy) (tree_under h image) alike) of.numbers;
          closed = of.closed;
          next = of.next ∙ next_alike (tree_under h copy) (tree_under h image) alike;
        }

    names : IsNamesPart s.names (image_start (tree_under s.superblock image))
    names = image_part sectors image (tree_under s.superblock image) (volume_under s.superblock image) (catalog_under s.superblock image) s.names opened standing table

    read : AreRead (image_under s.superblock image) (catalog_under s.superblock image) s.names s.files
    read =
        let h = s.superblock in
        read_there h.geometry h.limits (image_under h copy) (image_under h image) agree begun.standing.sound s.names (image_start (tree_under h copy)).paths begun.table.numbers s.files begun.read begun.unread
        (file_sized h.geometry (image_under h image) sized standing.sound)

    files : AreFilesOf s.files (image_start (tree_under s.superblock image))
    files =
        let h = s.superblock in
        let g = h.geometry in
        let other = image_under h image in
        let found : CatalogRead = record { forms = map (inode_at g other) (all_inodes g); dirs = dirs_of other (sound_nodes g other) } in
        let loaded : IsLoaded g found sectors image h.superblock other = record { standing = standing; found = record { forms = refl; dirs = refl } } in
        files_are g found sectors image h.superblock other loaded s.names s.files (record { opened = opened; names = table; part = names }) read

    pub begun_there : (p : Parts) → p.start ≡ session_start sectors image → IsBegun sectors image (record s { parts = p })
    begun_there p starts =
        let h = s.superblock in
        let g = h.geometry in
        let limits = h.limits in
        let one = image_under h copy in
        let other = image_under h image in
        let sound = begun.standing.sound in
        let numbers = begun.table.numbers in
        let paths = (image_start (tree_under h copy)).paths in
        let session : p.start ≡ start_with (paths_of (tree_under h image)) = starts ∙ ap (λ (r : Result ImageTree Refusal). start_with (paths_of (tree_or r))) opened in
        record {
          standing = standing;
          sized = sized;
          opened = opened;
          table = table;
          names = names;
          reached = begun.reached;
          named = named_there g limits one other agree sound s.names.tree begun.named;
          few = begun.few;
          read = read;
          files = files;
          inodes = begun.inodes;
          here = begun.here;
          unread = unread_there g limits one other agree sound s.names paths numbers s.files begun.read begun.unread;
          laid = laid_there g limits one other agree sound s.names paths numbers s.files begun.read begun.laid;
          first = begun.first;
          blocks = begun.blocks;
          free = λ block. begun.free block ∙ free_there g limits one other agree block;
          apart = begun.apart;
          session = session;
          can = record { nodes = paths_of (tree_under h image); cells = []; is_visible = false; paths = image_is_tree sectors image (tree_under h image) opened; few = few_files s.names (image_start (tree_under h image)) table.next begun.few; is = session };
        }

  -- ---- a refusal

  pub no_start_there : (fault : StartFault) → TellsNoStart copied copy fault → TellsNoStart sectors image fault
  no_start_there (Image fault) told = why_alike (opens copied copy) (opens sectors image) fault (opens_there copied sectors copy image is) told
  no_start_there (Unreached inode) told =
      let v = told.0 in
      let there = standing_there copied sectors copy image is v told.1 in
      (record v { image = there.0 }, there.2, cut_off_there v.geometry there.1.geometry v.image there.0 there.1.agree told.1.sound inode told.2)
  no_start_there (Unnamed inode) told =
      let v = told.0 in
      let there = standing_there copied sectors copy image is v told.1 in
      (record v { image = there.0 }, there.2, (unnamed_there v.geometry there.1.geometry v.image there.0 there.1.agree told.1.sound inode told.2.0, none_cut_there v.geometry there.1.geometry v.image there.0 there.1.agree told.1.sound told.2.1))
  no_start_there (ExtraBlocks inode) told =
      let v = told.0 in
      let there = standing_there copied sectors copy image is v told.1 in
      let form = form_same v.geometry there.1.geometry v.image there.0 there.1.agree inode told.2.0 in
      (record v { image = there.0 }, there.2, (told.2.0, subst (λ (f : InodeForm). (f.kind ≡ 1) × (block_count f.size < length (blocks_of f))) form told.2.1))

  pub none_there : (r : Result Start StartFault) → IfErr r (TellsNoStart copied copy) → IfErr r (TellsNoStart sectors image)
  none_there (Ok s) told = tt
  none_there (Err fault) told = no_start_there fault told

-- ---- what a start on the copy gives

-- With any parts that a session over the copy starts from, it is a start on the copy.
abbrev IsBegunWithAny : ℕ → images.Image → Start → Type 0
IsBegunWithAny copied copy s = (p : Parts) → p.start ≡ session_start copied copy → IsBegun copied copy (record s { parts = p })

own_copy : (copied sectors : ℕ) (copy : images.Image) → copied ≡ sectors_taken sectors copy → IsCopyOf copied copy sectors copy
own_copy copied sectors copy taken = record { taken = taken; same = λ sector used. refl; sized = λ sector less. refl }

with_own : (copied sectors : ℕ) (copy image : images.Image) (s : Start) → IsCopyOf copied copy sectors image → IsBegunWithAny copied copy s → s.parts.start ≡ session_start sectors image → IsBegun sectors image s
with_own copied sectors copy image s is begun starts =
    begun_there copied sectors copy image is (record s { parts = record s.parts { start = session_start copied copy } }) (begun (record s.parts { start = session_start copied copy }) refl) s.parts starts

-- each part of it
pub part_there : (copied sectors : ℕ) (copy image : images.Image) → IsCopyOf copied copy sectors image → (r : Result Start StartFault) (q : Parts) → IfOk r (λ (s : Start). s.parts ≡ q)
    → ((p : Parts) → p.start ≡ session_start copied copy → IfOk r (λ (s : Start). IsBegun copied copy (record s { parts = p }))) → q.start ≡ session_start sectors image → (P : Start → Type 0) → ((s : Start) → IsBegun sectors image s → P s) → IfOk r P
part_there copied sectors copy image is (Ok s) q own begun starts P part = part s (with_own copied sectors copy image s is begun (ap (λ (p : Parts). p.start) own ∙ starts))
part_there copied sectors copy image is (Err fault) q own begun starts P part = tt

-- over the disk where contracts see it, else over the copy
pub some_there : (visible : Bool) (copied sectors : ℕ) (copy image : images.Image) → copied ≡ sectors_taken sectors copy → (IsTrue visible → IsCopyOf copied copy sectors image) → (r : Result Start StartFault) (q : Parts) → IfOk r (λ (s : Start). s.parts ≡ q)
    → ((p : Parts) → p.start ≡ session_start copied copy → IfOk r (λ (s : Start). IsBegun copied copy (record s { parts = p }))) → q.start ≡ session_start sectors (image_seen visible image copy)
    → IfOk r (λ (s : Start). (any : images.Image) × IsBegun sectors any s × (IsTrue visible → any ≡ image))
some_there true copied sectors copy image taken is r q own begun starts = part_there copied sectors copy image (is refl) r q own begun starts _ (λ s there. (image, there, λ visible. refl))
some_there false copied sectors copy image taken is r q own begun starts =
    part_there copied sectors copy copy (own_copy copied sectors copy taken) r q own begun starts _ (λ s there. (copy, there, λ visible. absurd (let no : false ≡ true = visible in cc)))

pub seen_same : (visible : Bool) (one other copy : images.Image) → (IsTrue visible → one ≡ other) → image_seen visible one copy ≡ image_seen visible other copy
seen_same true one other copy same = same refl
seen_same false one other copy same = refl

pub seen_is : (visible : Bool) (image copy : images.Image) → IsTrue visible → image_seen visible image copy ≡ image
seen_is true image copy visible = refl
seen_is false image copy visible = absurd (let no : false ≡ true = visible in cc)
