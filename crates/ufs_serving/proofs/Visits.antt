-- A request that is served while its client's hand has the server's pool.
use Rattle.std.proofs.Common.{ℕ}
use Rattle.ufs_bitmap.specs.Blocks.{BlockSet}
use Rattle.ufs_held.specs.Asking.{IsGuest}
use Rattle.ufs_joint.specs.Cells.{View}
use Rattle.ufs_joint.specs.FirstHand.{HasPoolAlone}
use Rattle.ufs_msg.specs.Requests.{HasClientAlone}
use Rattle.ufs_hand_laws.specs.Parts.{ClientPart}

-- The guest has the client and the pool.
abbrev pub IsLent : View → View → View → Type 0
IsLent own client guest = (n : ℕ) (pool : BlockSet) (c : ℕ) (part : ClientPart) → HasPoolAlone n pool own → HasClientAlone c part client → IsGuest c part n pool guest

-- It is served, and has another part of the client, of which that is so.
abbrev pub IsServedAs : (c n : ℕ) (pool left : BlockSet) → (guest back : View) → ClientPart → (ClientPart → Type 0) → Type 0
IsServedAs c n pool left guest back part So = IsGuest c part n pool guest → (after : ClientPart) × So after × IsGuest c after n left back

module _ (own client guest back : View) (lent : IsLent own client guest) (c n : ℕ) (pool left : BlockSet) (mine : HasPoolAlone n pool own) where
  module _ (part : ClientPart) (came : HasClientAlone c part client) (So : ClientPart → Type 0) (served : IsServedAs c n pool left guest back part So) where
    pub visited : (after : ClientPart) × So after × IsGuest c after n left back
    visited = served (lent n pool c part mine came)

    -- the pool comes back
    pub pool_back : (right : View) → ((k : ℕ) (q : ClientPart) (p : BlockSet) → IsGuest k q n p back → HasPoolAlone n p right) → HasPoolAlone n left right
    pool_back right taken = taken c visited.0 left visited.2

    -- and so does the client
    pub client_back : (home : View) → ((k : ℕ) (q : ClientPart) (p : BlockSet) → IsGuest k q n p back → HasClientAlone k q home) → (after : ClientPart) × So after × HasClientAlone c after home
    client_back home taken = (visited.0, visited.1, taken c visited.0 left visited.2)
