-- What a clause says of a result that is an error.
use Rattle.std.proofs.Common.{Result, Ok, Err}
use Rattle.std.specs.Result.{OnOk, OnErr, IsErr}
use Rattle.std.proofs.lemmas.Bool.{false≢true}

pub on_err : {A E : Type 0} {P : Type 0} (r : Result A E) → P → OnErr r P
on_err (Ok a) p = tt
on_err (Err e) p = p

pub not_ok : {A E : Type 0} (P : Type 0) (r : Result A E) → IsErr r → OnOk r P
not_ok P (Ok a) e = absurd (false≢true e)
not_ok P (Err e) _ = tt
