-- What is told of words that are misused.
use Rattle.std.proofs.Common.{◌≡◌, ◌≤◌, ◌<◌, ◌++◌, ◌∙◌, List, [], ◌∷◌, Bool, Bor, Option, sym, ap, subst, inl, inr, length, slice_index_or, arith}
use Rattle.std.proofs.lemmas.Slice.Eq.{bytes_eq-Decides}
use Rattle.std.specs.Prelude.{ℕ, Some, drop, slice_get, IsTrue, map, ◌↔◌}
use Rattle.std.specs.Str.{bytes_eq}
use Rattle.clap.specs.Words.{HasKind, Text, kind_of}
use Rattle.clap.specs.declared.error.Error.{Error}
use Rattle.clap.specs.declared.error.kind.ErrorKind.{ErrorKind}
use Rattle.clap.specs.declared.error.kind.ErrorKind.TheVariants as kind
use Rattle.command_line.specs.declared.commands.Name.{Name}
use Rattle.command_line.specs.declared.words.usage.Misuse.{Misuse as Misuses}
use Rattle.command_line.specs.declared.words.usage.Misuse.TheVariants as misuse
use Rattle.command_line.specs.declared.words.usage.Misuse.TheVariants.{Refused, Value}
use Rattle.command_line.specs.declared.words.usage.Usage.TheVariants.{Misuse, OutOfMemory}
use Rattle.command_line.specs.declared.words.usage.ValueFault.{ValueFault}
use Rattle.command_line.specs.Inside.Putting.{IsMisuseOf}
use Rattle.command_line.specs.Misuses.{AreWell, AsksForHelp, Fault, IsFirstMisuse, fault_words}
use Rattle.command_line.specs.Rules.{argument_value, words_fault}
use Rattle.command_line.specs.Tasks.{IsHelpBy, IsMisuse, NamesCommand, NamesNoCommand, TakesWords, app_for, faults_of}
use Rattle.command_line.specs.Usage.{usage_by, usage_of}

-- ---- by one word alone

-- it is this word
pub one_word : (words : List (Bor (List ℕ))) (word : List ℕ) (default : Bor (List ℕ)) (b : Bool) → 1 ≤ length words → length words < 2 → b ≡ bytes_eq (slice_index_or words 0 default).now word → IsTrue b ↔ (map (λ w. w.now) words ≡ word ∷ [])
one_word [] word default b least below is = absurd (omega arith)
one_word (w ∷ []) word default b least below is =
    let same = bytes_eq-Decides w.now word in
    ((λ t. ap (λ x. x ∷ []) (same.0 (sym is ∙ t))), (λ e. is ∙ same.1 (let f : w.now ∷ [] ≡ word ∷ [] = e in cc)))
one_word (w ∷ v ∷ others) word default b least below is = absurd (omega arith)

-- ---- by the parser of command lines

refused_by : (k : ErrorKind) (name : Name) (e : Error) (m : Misuses) → usage_by k name e ≡ Misuse m → Refused name e ≡ m
refused_by kind.OutOfMemory command e m is = absurd (let f : OutOfMemory ≡ Misuse m = is in cc)
refused_by kind.InvalidValue command e m is = let f : Misuse (Refused command e) ≡ Misuse m = is in cc
refused_by kind.UnknownArgument command e m is = let f : Misuse (Refused command e) ≡ Misuse m = is in cc
refused_by kind.InvalidSubcommand command e m is = let f : Misuse (Refused command e) ≡ Misuse m = is in cc
refused_by kind.NoEquals command e m is = let f : Misuse (Refused command e) ≡ Misuse m = is in cc
refused_by kind.ValueValidation command e m is = let f : Misuse (Refused command e) ≡ Misuse m = is in cc
refused_by kind.TooManyValues command e m is = let f : Misuse (Refused command e) ≡ Misuse m = is in cc
refused_by kind.TooFewValues command e m is = let f : Misuse (Refused command e) ≡ Misuse m = is in cc
refused_by kind.WrongNumberOfValues command e m is = let f : Misuse (Refused command e) ≡ Misuse m = is in cc
refused_by kind.ArgumentConflict command e m is = let f : Misuse (Refused command e) ≡ Misuse m = is in cc
refused_by kind.MissingRequiredArgument command e m is = let f : Misuse (Refused command e) ≡ Misuse m = is in cc
refused_by kind.MissingSubcommand command e m is = let f : Misuse (Refused command e) ≡ Misuse m = is in cc
refused_by kind.DisplayHelp command e m is = let f : Misuse (Refused command e) ≡ Misuse m = is in cc
refused_by kind.DisplayHelpOnMissingArgumentOrSubcommand command e m is = let f : Misuse (Refused command e) ≡ Misuse m = is in cc
refused_by kind.DisplayVersion command e m is = let f : Misuse (Refused command e) ≡ Misuse m = is in cc
refused_by kind.Io command e m is = let f : Misuse (Refused command e) ≡ Misuse m = is in cc
refused_by kind.Format command e m is = let f : Misuse (Refused command e) ≡ Misuse m = is in cc

pub refused_so : (words : List Text) (name : Name) (e : Error) (m : Misuses) → NamesCommand words name → HasKind (words_fault (app_for name) words) e → usage_of name e ≡ Misuse m → IsMisuse words m
refused_so words name e m named h is = elim h [
  | inl memory ↦ absurd (let f : OutOfMemory ≡ Misuse m = sym (ap (λ k. usage_by k name e) memory) ∙ is in cc)
  | inr among ↦ subst (IsMisuse words) (refused_by (kind_of e) name e m is) (named, among)
]

-- ---- by the command's values

pub value_so : (words : List Text) (name : Name) (value : Text → Option Text) (fault : ValueFault) (m : Misuses) → NamesCommand words name → TakesWords (app_for name) words → ((id : Text) → value id ≡ argument_value (app_for name) words id) → IsFirstMisuse value (faults_of name value) (fault_words fault) → Misuse (Value name fault) ≡ Misuse m → IsMisuse words m
value_so words name value fault m named taken same first is =
    let one : value ≡ argument_value (app_for name) words = (λ i id. same id i) in
    let at : Value name fault ≡ m = cc in
    subst (IsMisuse words) at (named, taken, subst (λ (v : Text → Option Text). IsFirstMisuse v (faults_of name v) (fault_words fault)) one first)

-- ---- the first of several

pub first_in_front : (value : Text → Option Text) (front rest : List Fault) (line : List ℕ) → IsFirstMisuse value front line → IsFirstMisuse value (front ++ rest) line
first_in_front value [] rest line h = absurd h
first_in_front value (fault ∷ front) rest line h = elim h [
  | inl here ↦ inl here
  | inr later ↦ inr (later.0, first_in_front value front rest line later.1)
]

pub first_behind : (value : Text → Option Text) (front rest : List Fault) (line : List ℕ) → AreWell value front → IsFirstMisuse value rest line → IsFirstMisuse value (front ++ rest) line
first_behind value [] rest line well h = h
first_behind value (fault ∷ front) rest line well h = inr (well.0, first_behind value front rest line well.1 h)

-- ---- a first word that names no command

wants_help : (words : List Text) (word : Text) (m : Misuses) → slice_get words 0 ≡ Some word → AsksForHelp word → IsHelpBy (drop 1 words) m → IsMisuse words m
wants_help words word misuse.Help at asks h = ((word, at, asks), h)
wants_help words word (misuse.HelpOf command) at asks h = ((word, at, asks), h)
wants_help words word (misuse.UnknownCommand told) at asks h = inr ((word, at, asks), h)
wants_help words word misuse.NoCommand at asks h = absurd h
wants_help words word (misuse.NoText told) at asks h = absurd h
wants_help words word (misuse.Refused command e) at asks h = absurd h
wants_help words word (misuse.Value command fault) at asks h = absurd h

pub misuse_so : (words : List Text) (word : Text) (m : Misuses) → NamesNoCommand words → slice_get words 0 ≡ Some word → IsMisuseOf word (drop 1 words) m → IsMisuse words m
misuse_so words word m none at h = elim h [
  | inl asked ↦ wants_help words word m at asked.0 asked.1
  | inr unknown ↦
      let told = unknown.1.0 in
      subst (IsMisuse words) (sym unknown.1.2) (inl (none, at ∙ ap Some (sym unknown.1.1), λ asks. unknown.0 (subst AsksForHelp unknown.1.1 asks)))
]
