-- A step of reading fails with exactly the fault that a relation tells.
use Rattle.std.proofs.Common.{◌≡◌, ℕ, ◌+◌, ◌<◌, ◌≤◌, Bool, true, false, cond, ltb, List, [], ◌∷◌, length, take, drop, slice_index, Result, Ok, Err, refl, sym, ap, ◌∙◌, inl, inr, arith}
use Rattle.std.specs.Prelude.{◌⊎◌, ◌%◌}
use Rattle.std.proofs.lemmas.Bool.{cases_lt, false≢true, lt-ltb, le-ltb}
use Rattle.std.proofs.lemmas.List.{length-drop, drop_more, drop_all}
use Rattle.byteorder.specs.Endian.{little_number}
use Rattle.table_file.specs.declared.fault.TableFault.{TableFault}
use Rattle.table_file.specs.declared.fault.TableFault.TheVariants.{Truncated}
use Rattle.table_file.specs.Reading.{◌>>=◌, each_at, byte_at, taken_at, word_at, four_bytes_at, risen}
use Rattle.table_file.specs.Layouts.{IsRaised}
use Rattle.table_file.specs.FirstFaults.{HasFaultInTurn, here, behind, InEach, PassEnd, IsNot}
use Rattle.table_file.proofs.Agreeing.{Agrees, raise_to_2, raised_2}

-- Where reading fails, the relation holds of its fault, and where the relation holds of a fault, reading fails with it.
pub record Misses {B : Type 0} (read : Result B TableFault) (F : TableFault → Type 0) : Type 0 where
  pub told : (e : TableFault) → read ≡ Err e → F e
  pub tells : (e : TableFault) → F e → read ≡ Err e

pub not_both : {B : Type 0} (x : B) (e : TableFault) (r : Result B TableFault) → r ≡ Ok x → r ≡ Err e → ⊥
not_both x e r good bad = cc

same_fault : {B : Type 0} (d e : TableFault) (r : Result B TableFault) → r ≡ Err d → r ≡ Err e → e ≡ d
same_fault d e r first second = cc

abbrev failed : {B : Type 0} → TableFault → Result B TableFault
failed e = Err e

pub bind_err : {A B : Type 0} (r : Result A TableFault) (f : A → Result B TableFault) (e : TableFault) → (r >>= f) ≡ Err e → (r ≡ Err e) ⊎ ((x : A) × (r ≡ Ok x) × (f x ≡ Err e))
bind_err (Ok x) f e is = inr (x, refl, is)
bind_err (Err d) f e is = inl cc

-- ---- ways to join steps

pub like_misses : {B : Type 0} {r : Result B TableFault} {F G : TableFault → Type 0} → Misses r F → ((e : TableFault) → F e → G e) → ((e : TableFault) → G e → F e) → Misses r G
like_misses m to from = record { told = λ e is. to e (m.told e is); tells = λ e g. m.tells e (from e g) }

-- what gives something has no fault
pub none_misses : {B : Type 0} (x : B) (r : Result B TableFault) → r ≡ Ok x → Misses r (λ e. ⊥)
none_misses x r is = record { told = λ e bad. not_both x e r is bad; tells = λ e none. absurd none }

-- what a step gives can be made into something else
pub end_misses : {A B : Type 0} (r : Result A TableFault) (h : A → B) (F : TableFault → Type 0) → Misses r F → Misses (r >>= λ x. Ok (h x)) F
end_misses {A} {B} (Ok x) h F m = record { told = λ e is. absurd (not_both (h x) e (Ok (h x)) refl is); tells = λ e f. absurd (not_both x e (Ok x) refl (m.tells e f)) }
end_misses {A} {B} (Err d) h F m = record {
  told = λ e is. m.told e (same d e is);
  tells = λ e f. other d e (m.tells e f);
}
  where
    same : (d e : TableFault) → (let r : Result B TableFault = Err d in r) ≡ Err e → (let r : Result A TableFault = Err d in r) ≡ Err e
    same d e is = let x : d ≡ e = sym (same_fault {B = B} d e (Err d) refl is) in ap (λ (k : TableFault). failed {B = A} k) x

    other : (d e : TableFault) → (let r : Result A TableFault = Err d in r) ≡ Err e → (let r : Result B TableFault = Err d in r) ≡ Err e
    other d e is = let x : d ≡ e = sym (same_fault {B = A} d e (Err d) refl is) in ap (λ (k : TableFault). failed {B = B} k) x

pub then_misses : {A B : Type 0} (body : List ℕ) (f : List ℕ → Result (A × List ℕ) TableFault) (g : A → List ℕ → Result B TableFault) (R : ℕ → A → ℕ → Type 0) (F : ℕ → TableFault → Type 0) (G : A → ℕ → TableFault → Type 0) (p : ℕ)
    → p ≤ length body → Agrees body f R → Misses (f (drop p body)) (F p) → ((a : A) (q : ℕ) → q ≤ length body → Misses (g a (drop q body)) (G a q)) → Misses (f (drop p body) >>= λ x. g x.0 x.1) (HasFaultInTurn F R G p)
then_misses {A} {B} body f g R F G p le r m s = record { told = told; tells = tells }
  where
    told : (e : TableFault) → (f (drop p body) >>= λ x. g x.0 x.1) ≡ Err e → HasFaultInTurn F R G p e
    told e is =
        elim (bind_err (f (drop p body)) (λ x. g x.0 x.1) e is) [
          | inl bad ↦ here (m.told e bad)
          | inr x ↦
              let one = r.tells p x.0.0 x.0.1 le x.1 in
              behind x.0.0 one.0 one.1 ((s x.0.0 one.0 one.2).told e (ap (g x.0.0) (sym one.3) ∙ x.2))
        ]

    tells : (e : TableFault) → HasFaultInTurn F R G p e → (f (drop p body) >>= λ x. g x.0 x.1) ≡ Err e
    tells e (here h) = ap (λ (y : Result (A × List ℕ) TableFault). y >>= λ x. g x.0 x.1) (m.tells e h)
    tells e (behind a q h k) =
        let one = r.reads p a q le h in
        ap (λ (y : Result (A × List ℕ) TableFault). y >>= λ x. g x.0 x.1) one.1 ∙ (s a q one.0).tells e k

pub cond_misses : {B : Type 0} (test : Bool) (r s : Result B TableFault) (F G : TableFault → Type 0) → Misses r F → Misses s G → Misses (cond test r s) (λ e. ((test ≡ true) × F e) ⊎ ((test ≡ false) × G e))
cond_misses true r s F G m n = record { told = λ e is. inl (refl, m.told e is); tells = tells }
  where
    tells : (e : TableFault) → ((true ≡ true) × F e) ⊎ ((true ≡ false) × G e) → r ≡ Err e
    tells e (inl h) = m.tells e h.1
    tells e (inr h) = absurd (false≢true (sym h.0))
cond_misses false r s F G m n = record { told = λ e is. inr (refl, n.told e is); tells = tells }
  where
    tells : (e : TableFault) → ((false ≡ true) × F e) ⊎ ((false ≡ false) × G e) → s ≡ Err e
    tells e (inl h) = absurd (false≢true h.0)
    tells e (inr h) = n.tells e h.1

-- a test of what was read
pub guard_misses : {B : Type 0} (test : Bool) (good : Type 0) (fault : TableFault) (x : B) → (test ≡ true → good) → (good → test ≡ true) → Misses (cond test (Ok x) (Err fault)) (IsNot good fault)
guard_misses {B} true good fault x to from = record { told = λ e is. absurd (not_both x e (Ok x) refl is); tells = λ e h. absurd (h.0 (to refl)) }
guard_misses {B} false good fault x to from = record {
  told = λ e is. (λ g. false≢true (from g), same_fault {B = B} fault e (Err fault) refl is);
  tells = λ e h. ap (λ (k : TableFault). failed {B = B} k) (sym h.1);
}

-- what can fail in one way alone
pub only_misses : {B : Type 0} (r : Result B TableFault) (good : Type 0) (fault : TableFault) → ((x : B) → r ≡ Ok x → good) → (good → (x : B) × (r ≡ Ok x)) → ((e : TableFault) → r ≡ Err e → e ≡ fault) → Misses r (IsNot good fault)
only_misses {B} (Ok x) good fault to from only = record { told = λ e is. absurd (not_both x e (Ok x) refl is); tells = λ e h. absurd (h.0 (to x refl)) }
only_misses {B} (Err d) good fault to from only = record {
  told = λ e is. (λ g. let x = from g in not_both x.0 d (Err d) x.1 refl, only e is);
  tells = λ e h. ap (λ (k : TableFault). failed {B = B} k) (only d refl ∙ sym h.1);
}

-- ---- bytes and numbers

abbrev sized_at : {B : Type 0} → ℕ → (List ℕ → B) → List ℕ → Result (B × List ℕ) TableFault
sized_at n view bytes = cond (ltb (length bytes) n) (Err Truncated) (Ok (view bytes, drop n bytes))

sized_misses : {B : Type 0} (body : List ℕ) (n : ℕ) (view : List ℕ → B) (p : ℕ) → p ≤ length body → Misses (sized_at n view (drop p body)) (PassEnd n body p)
sized_misses {B} body n view p le = record { told = told; tells = tells }
  where
    told : (e : TableFault) → sized_at n view (drop p body) ≡ Err e → PassEnd n body p e
    told e is =
        elim (cases_lt (length (drop p body)) n) [
          | inl short ↦ (omega (arith, length-drop p body, short, le), same_fault {B = B × List ℕ} Truncated e (Err Truncated) refl (rw (lt-ltb (length (drop p body)) n short) at is))
          | inr long ↦ absurd (not_both (view (drop p body), drop n (drop p body)) e (Ok (view (drop p body), drop n (drop p body))) refl (rw (le-ltb (length (drop p body)) n long) at is))
        ]

    tells : (e : TableFault) → PassEnd n body p e → sized_at n view (drop p body) ≡ Err e
    tells e h =
        let short : length (drop p body) < n = omega (arith, length-drop p body, h.0) in
        rw (lt-ltb (length (drop p body)) n short) (ap (λ (k : TableFault). failed {B = B × List ℕ} k) (sym h.1))

pub taken_misses : (body : List ℕ) (n p : ℕ) → p ≤ length body → Misses (taken_at n (drop p body)) (PassEnd n body p)
unfolding taken_at
taken_misses body n p le = sized_misses body n (λ bytes. take n bytes) p le

pub word_misses : (body : List ℕ) (p : ℕ) → p ≤ length body → Misses (word_at (drop p body)) (PassEnd 2 body p)
unfolding word_at
word_misses body p le = sized_misses body 2 (little_number 2) p le

pub number_misses : (body : List ℕ) (p : ℕ) → p ≤ length body → Misses (four_bytes_at (drop p body)) (PassEnd 4 body p)
unfolding four_bytes_at
number_misses body p le = sized_misses body 4 (little_number 4) p le

first_byte : (b : ℕ) (rest : List ℕ) → byte_at (b ∷ rest) ≡ Ok (b, rest)
unfolding byte_at
first_byte b rest = refl

no_byte : byte_at [] ≡ Err Truncated
unfolding byte_at
no_byte = refl

pub byte_misses : (body : List ℕ) (p : ℕ) → p ≤ length body → Misses (byte_at (drop p body)) (PassEnd 1 body p)
byte_misses body p le = record { told = told; tells = tells }
  where
    told : (e : TableFault) → byte_at (drop p body) ≡ Err e → PassEnd 1 body p e
    told e is =
        elim (cases_lt p (length body)) [
          | inl lt ↦ absurd (not_both (slice_index body p, drop (p + 1) body) e (byte_at (drop p body)) (ap byte_at (drop_more body p 0 lt) ∙ first_byte (slice_index body p) (drop (p + 1) body)) is)
          | inr ge ↦ (omega (arith, ge), same_fault {B = ℕ × List ℕ} Truncated e (byte_at (drop p body)) (ap byte_at (drop_all p body ge) ∙ no_byte) is)
        ]

    tells : (e : TableFault) → PassEnd 1 body p e → byte_at (drop p body) ≡ Err e
    tells e h =
        let ge : length body ≤ p = omega (arith, h.0) in
        ap byte_at (drop_all p body ge) ∙ no_byte ∙ ap (λ (k : TableFault). failed {B = ℕ × List ℕ} k) (sym h.1)

-- ---- rises

pub raised_misses : {B : Type 0} (body : List ℕ) (k : List ℕ → Result B TableFault) (F : ℕ → TableFault → Type 0) (p : ℕ) → length body % 64 ≡ 0 → p ≤ length body → ((q : ℕ) → q ≤ length body → Misses (k (drop q body)) (F q))
    → Misses (k (risen 2 (drop p body))) (λ e. (q : ℕ) × IsRaised 2 p q × F q e)
raised_misses body k F p even le m = record {
  told = λ e is.
      let q = p + length (drop p body) % 2 in
      let r = raised_2 body p even le in
      let a = raise_to_2 body p q even le r in
      (q, r, (m q a.0).told e (ap k (sym a.1) ∙ is));
  tells = λ e h.
      let a = raise_to_2 body p h.0 even le h.1 in
      ap k a.1 ∙ (m h.0 a.0).tells e h.2;
}

-- ---- one part after the other

pub each_misses : {A B : Type 0} (body : List ℕ) (step : A → List ℕ → Result (B × List ℕ) TableFault) (R : A → ℕ → B → ℕ → Type 0) (F : A → ℕ → TableFault → Type 0) → ((a : A) → Agrees body (step a) (R a))
    → ((a : A) (p : ℕ) → p ≤ length body → Misses (step a (drop p body)) (F a p)) → (xs : List A) (p : ℕ) → p ≤ length body → Misses (each_at step xs (drop p body)) (InEach F R xs p)
unfolding each_at
each_misses {A} {B} body step R F s m [] p le = none_misses ([], drop p body) (Ok ([], drop p body)) refl
each_misses {A} {B} body step R F s m (a ∷ others) p le =
    then_misses body (step a) (λ b bytes. each_at step others bytes >>= λ rest. Ok (b ∷ rest.0, rest.1)) (R a) (F a) (λ _. InEach F R others) p le (s a) (m a p le)
    (λ b q fits. end_misses (each_at step others (drop q body)) (λ rest. (b ∷ rest.0, rest.1)) (InEach F R others q) (each_misses body step R F s m others q fits))
