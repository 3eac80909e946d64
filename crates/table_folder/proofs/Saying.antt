-- What files say.
use Rattle.std.proofs.Common.{◌≡◌, ℕ, false, List, Option, Some, Err, refl}
use Rattle.std.specs.Str.{bytes_eq}
use Rattle.sha2.specs.Sha256.{sha256}
use Rattle.table_folder.specs.declared.fault.FileFault.TheVariants.{Changed}
use Rattle.table_folder.specs.Folders.{found_in}

-- bytes of another digest
pub changed_is : (held : Option (List ℕ)) (digest name bytes : List ℕ) → held ≡ Some digest → bytes_eq (sha256 bytes) digest ≡ false → Err Changed ≡ found_in held name bytes
changed_is held digest name bytes e differs = rw (e, differs) refl
