-- Where ports and kept files are opened (this project's own).
use Rattle.std.specs.Prelude.{◌≡◌, ℕ, Bool, List, [], ◌∷◌, Option, Result, Ok, Err}
use Rattle.std.specs.declared.net.socket_addr.SocketAddr.{SocketAddr}
use Rattle.system_io.specs.declared.host.BindFault.{BindFault}
use Rattle.system_io.specs.declared.host.LockFault.{LockFault}

-- what is known of a host of such ports and files
pub record HostFacts (P F : Type 0) : Type 1 where
  -- whether the places of its ports and files are stated
  pub is_told : Bool
  -- the port is bound to this address and sends to those
  pub binds : List ℕ → List (List ℕ) → P → Type 0
  -- the port listens at this address, by the number that it has got where it was bound to port 0; none where that isn't told
  pub listens : P → Option SocketAddr → Type 0
  -- no port is bound to this address, for this reason
  pub refuses : List ℕ → BindFault → Type 0
  -- the file is the one at this path
  pub is_at : List ℕ → F → Type 0
  -- the file at this path may take memory, which may be refused
  pub takes_memory : List ℕ → Type 0
  -- the file at this path is locked, and no other process holds its lock
  pub gives_lock : List ℕ → Type 0
  -- the file at this path isn't locked, for this reason
  pub bars : List ℕ → LockFault → Type 0

-- a port is bound to one address, listens at one and sends to one list of addresses, and a file is at one path
pub record PlacesOne {P F : Type 0} (host : HostFacts P F) : Type 0 where
  pub address : (port : P) (a b : List ℕ) (to others : List (List ℕ)) → host.binds a to port → host.binds b others port → a ≡ b
  pub to : (port : P) (a b : List ℕ) (to others : List (List ℕ)) → host.binds a to port → host.binds b others port → to ≡ others
  pub own : (port : P) (a b : Option SocketAddr) → host.listens port a → host.listens port b → a ≡ b
  pub path : (file : F) (a b : List ℕ) → host.is_at a file → host.is_at b file → a ≡ b

-- ---- what is made there

pub data Made : Type 0 where
  -- a port that is bound to this address and sends to those
  PortAt : (address : List ℕ) (to : List (List ℕ)) → Made
  -- a file in which something is kept, at this path
  FileAt : (path : List ℕ) → Made
  -- the lock of the file at this path
  LockAt : (path : List ℕ) → Made
  -- the store at this path
  StoreAt : (path : List ℕ) → Made

-- a call that is done has made this, and one that fails nothing
abbrev pub if_made : {A E : Type 0} → Result A E → Made → List Made
if_made (Ok a) made = made ∷ []
if_made (Err e) made = []
