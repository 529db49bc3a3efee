-- A disk shows a history, and is explained by one, by the images that a crash may leave.
use Rattle.ufs_hand_laws.specs.Explained.{Showing}
use Rattle.ufs_hand_laws.specs.Shown.{ShowsImages, ExplainsImages, nodes_of}
use Rattle.ufs_hand_laws.specs.Facts.Covered.{shows_more, shown_explained}

abbrev pub by_images : Showing
by_images = record {
  Shows = ShowsImages;
  Explains = ExplainsImages;
  more = λ keeps start h e files names paths cells tree legal made shows image is. let o = shows image is in (o.0, o.1, shows_more start h e files names paths (nodes_of o.0) o.2);
  explains = λ keeps start h more files names paths cells tree legal shows covers synced born image is.
      let o = shows image is in (o.0, o.1, shown_explained keeps start tree h more legal.entries files names paths (nodes_of o.0) o.2 covers synced born);
}
