-- Where the system's ports and kept files are (this project's own).
use Rattle.std.specs.Prelude.{◌≡◌, ◌<◌, ◌≤◌, ◌++◌, ℕ, List, Option, codes, map, string_bytes}
use Rattle.std.specs.Fmt.{decimal}
use Rattle.std.specs.List.{All}
use Rattle.std.specs.declared.net.socket_addr.SocketAddr.{SocketAddr}
use Rattle.system_io.specs.Recipients.{IsAddressed, addressed_word}
use Rattle.system_io.specs.declared.lock_file.LockFile.{LockFile}
use Rattle.system_io.specs.declared.system_file.SystemCalls.{SystemCalls}
use Rattle.system_io.specs.declared.call_log.CallLog.{CallLog}
use Rattle.system_io.specs.declared.udp_port.UdpPort.{UdpPort}

-- the port was bound to this address, and sends to those whom these words name
pub record IsBound {C S W : Type 0} (address : List ℕ) (to : List (List ℕ)) (port : UdpPort C S W) : Type 0 where
  pub at : string_bytes port.address ≡ address
  pub sends : map addressed_word port.to.items ≡ to
  pub names : All (IsAddressed port.own) port.to.items

-- the address that the socket told as its own when it was bound, if it did
abbrev pub ListensAt : {C S W : Type 0} → UdpPort C S W → Option SocketAddr → Type 0
ListensAt port own = own ≡ port.own

-- the calls are those for the file at this path
abbrev pub AreFor : {X Y Z : Type 0} → List ℕ → SystemCalls X Y Z → Type 0
AreFor path calls = string_bytes calls.path ≡ path

-- the file is the one at this path
abbrev pub IsAtPath : {X Y Z : Type 0} → List ℕ → CallLog (SystemCalls X Y Z) → Type 0
IsAtPath path file = AreFor path file.calls

-- the file that is locked is the one at this path
abbrev pub Locks : List ℕ → LockFile → Type 0
Locks path lock = string_bytes lock.locked.path ≡ path

-- the name of a file beside the one at a path, by its place among those names: `.new` behind the path, from place 2 on with a dot and the
-- place before that
pub record IsBesideAt (path : List ℕ) (place : ℕ) (name : List ℕ) : Type 0 where
  pub first : place < 2 → name ≡ path ++ codes ".new"
  pub later : 2 ≤ place → name ≡ path ++ (codes "." ++ (decimal place ++ codes ".new"))

-- one of the sixteen names
pub record IsBeside (path name : List ℕ) : Type 0 where
  pub place : ℕ
  pub some : 1 ≤ place
  pub few : place ≤ 16
  pub named : IsBesideAt path place name
