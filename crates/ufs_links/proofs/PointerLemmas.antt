-- What the single writes of a node's joining and parting come to.
use Rattle.std.proofs.Common.{◌≡◌, ◌≢◌, ℕ, Option, None, Some, sym, ap, ◌∙◌, slice_index_or, option_and_then}
use Rattle.std.specs.Option.{option_map}
use Rattle.ufs_links.specs.declared.pointers.Place.{Place}
use Rattle.ufs_links.specs.declared.pointers.Pointers.{Pointers}
use Rattle.ufs_links.specs.Pointers.{no_ends, after_of, before_of, list_of, SameSizes, AfterSet, BeforeSet, PlaceSet, Joined, Parted}

sizes_twice : (s0 s1 s2 s3 : Pointers) → SameSizes s0 s1 → SameSizes s1 s2 → SameSizes s2 s3 → SameSizes s0 s3
sizes_twice s0 s1 s2 s3 a b c = record { places = c.places ∙ b.places ∙ a.places; ends = c.ends ∙ b.ends ∙ a.ends }

module _ (s0 s1 : Pointers) (node : ℕ) (place : Option Place) (h : PlaceSet s0 s1 node place) where
  placed_after : (l : ℕ) (q : Option ℕ) → q ≢ Some node → after_of s1 l q ≡ after_of s0 l q
  placed_after l None ne = ap (λ es. (slice_index_or es l no_ends).front) h.ends
  placed_after l (Some n) ne = ap (λ (p : Option Place). option_and_then (λ place. place.after) p) (h.others n (λ e. ne (ap Some e)))

  placed_before : (l : ℕ) (q : Option ℕ) → q ≢ Some node → before_of s1 l q ≡ before_of s0 l q
  placed_before l None ne = ap (λ es. (slice_index_or es l no_ends).back) h.ends
  placed_before l (Some n) ne = ap (λ (p : Option Place). option_and_then (λ place. place.before) p) (h.others n (λ e. ne (ap Some e)))

  placed_list : (n : ℕ) → n ≢ node → list_of s1 n ≡ list_of s0 n
  placed_list n ne = ap (λ (p : Option Place). option_map (λ place. place.list) p) (h.others n ne)

  placed_front : (l : ℕ) → after_of s1 l None ≡ after_of s0 l None
  placed_front l = ap (λ es. (slice_index_or es l no_ends).front) h.ends

  placed_back : (l : ℕ) → before_of s1 l None ≡ before_of s0 l None
  placed_back l = ap (λ es. (slice_index_or es l no_ends).back) h.ends

pub joined : (s0 s1 s2 s3 : Pointers) (list node : ℕ) (before after : Option ℕ) → PlaceSet s0 s1 node (Some (record { list = list; before = before; after = after })) → AfterSet s1 s2 list before (Some node)
    → BeforeSet s2 s3 list after (Some node) → Joined s0 s3 list node before after
joined s0 s1 s2 s3 list node before after p a b = record {
  after_before = b.after list before ∙ a.there;
  before_after = b.there;
  after_node = λ ne. b.after list (Some node) ∙ a.others list (Some node) (λ e. ne (sym e)) ∙ ap (λ (p : Option Place). option_and_then (λ place. place.after) p) p.there;
  before_node = λ ne. b.others list (Some node) (λ e. ne (sym e)) ∙ a.before list (Some node) ∙ ap (λ (p : Option Place). option_and_then (λ place. place.before) p) p.there;
  list_node = b.lists node ∙ a.lists node ∙ ap (λ (p : Option Place). option_map (λ place. place.list) p) p.there;
  afters = λ l q away off. b.after l q ∙ a.others l q away ∙ placed_after s0 s1 node _ p l q off;
  befores = λ l q away off. b.others l q away ∙ a.before l q ∙ placed_before s0 s1 node _ p l q off;
  fronts = λ l ne. b.after l None ∙ a.fronts l ne ∙ placed_front s0 s1 node _ p l;
  backs = λ l ne. b.backs l ne ∙ a.before l None ∙ placed_back s0 s1 node _ p l;
  lists = λ n ne. b.lists n ∙ a.lists n ∙ placed_list s0 s1 node _ p n ne;
  sizes = sizes_twice s0 s1 s2 s3 p.sizes a.sizes b.sizes;
}

pub parted : (s0 s1 s2 s3 : Pointers) (node : ℕ) (place : Place) → AfterSet s0 s1 place.list place.before place.after → BeforeSet s1 s2 place.list place.after place.before
    → PlaceSet s2 s3 node None → Parted s0 s3 node place
parted s0 s1 s2 s3 node place a b p = record {
  after_before = λ ne. placed_after s2 s3 node None p place.list place.before ne ∙ b.after place.list place.before ∙ a.there;
  before_after = λ ne. placed_before s2 s3 node None p place.list place.after ne ∙ b.there;
  afters = λ l q away off. placed_after s2 s3 node None p l q off ∙ b.after l q ∙ a.others l q away;
  befores = λ l q away off. placed_before s2 s3 node None p l q off ∙ b.others l q away ∙ a.before l q;
  fronts = λ l ne. placed_front s2 s3 node None p l ∙ b.after l None ∙ a.fronts l ne;
  backs = λ l ne. placed_back s2 s3 node None p l ∙ b.backs l ne ∙ a.before l None;
  lists = λ n ne. placed_list s2 s3 node None p n ne ∙ b.lists n ∙ a.lists n;
  off = ap (λ (q : Option Place). option_map (λ place. place.list) q) p.there;
  sizes = sizes_twice s0 s1 s2 s3 a.sizes b.sizes p.sizes;
}
