-- Which client holds which file, as descriptors come and go; and which files are live.
use Rattle.std.proofs.Common.{◌≡◌, ℕ, zero, suc, ◌<◌, ◌⊎◌, inl, inr, List, [], ◌∷◌, Bool, true, false, ◌||◌, length, Some, None, ap, refl, sym, ◌∙◌}
use Rattle.std.specs.Prelude.{slice_index_or, slice_set}
use Rattle.std.specs.List.{list_any}
use Rattle.std.specs.FinMap as map
use Rattle.std.proofs.lemmas.List.{get_or-set_same, get_or-set_other}
use Rattle.ufs_model.specs.PosixTree.{Paths, Fds, is_live, is_desc_of, is_number}
use Rattle.ufs_model.specs.Touched.{holds}
use Rattle.ufs_model.specs.declared.data.Desc.{Desc}
use Rattle.ufs_model.proofs.Facts.Orders.{fd_total, fd_same}
use Rattle.ufs_model.proofs.Facts.Lookups.{same_some, one_or_apart, inserted_here, inserted_else, removed_else, left_was, passes, from_passes}
use Rattle.ufs_model.proofs.Facts.Live.{alike, is_itself, number_is}
use Rattle.ufs_model.proofs.Facts.Held.{Holder, holder, held}
use Rattle.ufs_names.specs.NamesPart.{is_kept}
use Rattle.ufs_names.specs.declared.holding.Holding.{Holding}
use Rattle.ufs_names.proofs.LinkLemmas.{is_named}

-- ---- descriptors come and go

module _ (fds : Fds) (c fd : ℕ) where
  abbrev Same : ℕ → ℕ → Type 0
  Same client n = ◌≡◌ {A = ℕ × ℕ} (client, n) (c, fd)

  -- the client holds the file that it opened
  pub holds_opened : (d : Desc) (f : ℕ) → d.file ≡ Some f → holds (map.insert fds (c, fd) d) c f ≡ true
  holds_opened d f e = held (map.insert fds (c, fd) d) c f fd d (inserted_here fd_total fd_same fds (c, fd) d) (ap (is_number f) e ∙ is_itself f)

  module _ (d : Desc) (client file : ℕ) (other : client ≡ c → d.file ≡ Some file → ⊥) where
    -- the descriptor isn't that one
    differs : (n : ℕ) (d' : Desc) → Same client n → Some d ≡ Some d' → is_desc_of file d' ≡ true → ⊥
    differs n d' same is of = other (ap (λ (k : ℕ × ℕ). k.0) same) (ap (λ (d : Desc). d.file) (same_some d d' is) ∙ number_is file d'.file of)

    -- each other hold is as before, where the descriptor was free
    pub holds_else : map.get fds (c, fd) ≡ None → holds (map.insert fds (c, fd) d) client file ≡ holds fds client file
    holds_else free = alike _ _ (λ e. to (holder (map.insert fds (c, fd) d) client file e)) (λ e. back (holder fds client file e))
      where
        to : Holder (map.insert fds (c, fd) d) client file → holds fds client file ≡ true
        to h = by (one_or_apart fd_total fd_same (client, h.0) (c, fd))
          where
            by : Same client h.0 ⊎ (Same client h.0 → ⊥) → holds fds client file ≡ true
            by (inl e) = absurd (differs h.0 h.1 e (sym (inserted_here fd_total fd_same fds (c, fd) d) ∙ sym (ap (map.get (map.insert fds (c, fd) d)) e) ∙ h.2) h.3)
            by (inr not) = held fds client file h.0 h.1 (sym (inserted_else fd_total fd_same fds (c, fd) d (client, h.0) not) ∙ h.2) h.3

        back : Holder fds client file → holds (map.insert fds (c, fd) d) client file ≡ true
        back h = held (map.insert fds (c, fd) d) client file h.0 h.1 (inserted_else fd_total fd_same fds (c, fd) d (client, h.0) not ∙ h.2) h.3
          where
            not : Same client h.0 → ⊥
            not e = let none = ap (map.get fds) e ∙ free in let there = h.2 in cc

    -- each other hold is as before, where the descriptor was this
    pub holds_left : map.get fds (c, fd) ≡ Some d → holds (map.remove fds (c, fd)) client file ≡ holds fds client file
    holds_left there = alike _ _ (λ e. to (holder (map.remove fds (c, fd)) client file e)) (λ e. back (holder fds client file e))
      where
        to : Holder (map.remove fds (c, fd)) client file → holds fds client file ≡ true
        to h = held fds client file h.0 h.1 (left_was fd_total fd_same fds (c, fd) (client, h.0) h.1 h.2).1 h.3

        back : Holder fds client file → holds (map.remove fds (c, fd)) client file ≡ true
        back h = held (map.remove fds (c, fd)) client file h.0 h.1 (removed_else fd_total fd_same fds (c, fd) (client, h.0) not ∙ h.2) h.3
          where
            not : Same client h.0 → ⊥
            not e = differs h.0 h.1 e (sym there ∙ sym (ap (map.get fds) e) ∙ h.2) h.3

-- ---- the clients of a file

pub client_set : (clients : List Bool) (c : ℕ) (b : Bool) → c < length clients → slice_index_or (slice_set clients c b) c false ≡ b
client_set clients c b h = get_or-set_same clients c b false h

pub client_else : (clients : List Bool) (c client : ℕ) (b : Bool) → (client ≡ c → ⊥) → slice_index_or (slice_set clients c b) client false ≡ slice_index_or clients client false
client_else clients c client b not = get_or-set_other clients c client b false not

-- some client is marked
pub marked : (clients : List Bool) → list_any (λ b. b) clients ≡ true → (c : ℕ) × (slice_index_or clients c false ≡ true)
marked [] e = cc
marked (true ∷ clients) e = (0, refl)
marked (false ∷ clients) e = let rest = marked clients e in (suc rest.0, rest.1)

pub from_marked : (clients : List Bool) (c : ℕ) → slice_index_or clients c false ≡ true → list_any (λ b. b) clients ≡ true
from_marked [] c e = cc
from_marked (true ∷ clients) c e = refl
from_marked (false ∷ clients) zero e = cc
from_marked (false ∷ clients) (suc c) e = from_marked clients c e

-- ---- live is kept

module _ (h : Holding) (paths : Paths) (fds : Fds) (f : ℕ) (linked : h.linked ≡ is_named paths f) (clients : (c : ℕ) → slice_index_or h.clients c false ≡ holds fds c f) where
  opened_kept : list_any (λ b. b) h.clients ≡ list_any (is_desc_of f) (map.values fds)
  opened_kept = alike _ _ to back
    where
      to : list_any (λ b. b) h.clients ≡ true → list_any (is_desc_of f) (map.values fds) ≡ true
      to e =
          let c = marked h.clients e in
          let at = holder fds c.0 f (sym (clients c.0) ∙ c.1) in
          from_passes fd_total fd_same (is_desc_of f) fds ((c.0, at.0), at.1, at.2, at.3)

      back : list_any (is_desc_of f) (map.values fds) ≡ true → list_any (λ b. b) h.clients ≡ true
      back e =
          let at = passes fd_total fd_same (is_desc_of f) fds e in
          from_marked h.clients at.0.0 (clients at.0.0 ∙ held fds at.0.0 f at.0.1 at.1 at.2 at.3)

  -- a file is live exactly where something keeps it
  pub kept_is_live : is_kept h ≡ is_live paths fds f
  kept_is_live = ap (λ b. b || list_any (λ b. b) h.clients) linked ∙ ap (λ b. is_named paths f || b) opened_kept
