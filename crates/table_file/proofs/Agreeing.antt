-- A step of reading agrees with a relation by offsets.
use Rattle.std.proofs.Common.{◌≡◌, ℕ, ◌+◌, ◌≤◌, Bool, true, false, cond, ltb, List, [], ◌∷◌, length, take, drop, slice_index, Result, Ok, Err, refl, sym, ap, subst, ◌∙◌, inl, inr, arith}
use Rattle.std.specs.Prelude.{◌%◌}
use Rattle.std.proofs.lemmas.Bool.{cases_lt, false≢true, lt-ltb, le-ltb}
use Rattle.std.proofs.lemmas.List.{length-drop, drop-drop, drop_more, drop_all}
use Rattle.byteorder.specs.Endian.{little_number}
use Rattle.table_file.specs.declared.fault.TableFault.{TableFault}
use Rattle.table_file.specs.declared.fault.TableFault.TheVariants.{Truncated}
use Rattle.table_file.specs.Reading.{◌>>=◌, each_at, byte_at, taken_at, word_at, four_bytes_at, risen}
use Rattle.table_file.specs.Layouts.{IsByte, AreBytes, IsNumber, IsRaised, Each}

-- Where the relation holds, reading gives that, and where reading gives something, the relation holds of it.
pub record Agrees {B : Type 0} (body : List ℕ) (read : List ℕ → Result (B × List ℕ) TableFault) (R : ℕ → B → ℕ → Type 0) : Type 0 where
  pub reads : (p : ℕ) (b : B) (q : ℕ) → p ≤ length body → R p b q → (q ≤ length body) × (read (drop p body) ≡ Ok (b, drop q body))
  pub tells : (p : ℕ) (b : B) (rest : List ℕ) → p ≤ length body → read (drop p body) ≡ Ok (b, rest) → (q : ℕ) × R p b q × (q ≤ length body) × (rest ≡ drop q body)

pub bind_ok : {A B : Type 0} (r : Result A TableFault) (f : A → Result B TableFault) (y : B) → (r >>= f) ≡ Ok y → (x : A) × (r ≡ Ok x) × (f x ≡ Ok y)
bind_ok (Ok x) f y e = (x, refl, e)
bind_ok (Err d) f y e = absurd cc

abbrev pub done : {A : Type 0} → A → Result A TableFault
done x = Ok x

pub is_ok : {A : Type 0} (x y : A) → done x ≡ done y → x ≡ y
is_ok x y e = cc

pub drops : (xs : List ℕ) (p n : ℕ) → drop n (drop p xs) ≡ drop (p + n) xs
drops xs p n = drop-drop n p xs

-- ---- ways to join steps

pub then_agrees : {A B : Type 0} (body : List ℕ) (f : List ℕ → Result (A × List ℕ) TableFault) (g : A → List ℕ → Result (B × List ℕ) TableFault) (R : ℕ → A → ℕ → Type 0) (S : A → ℕ → B → ℕ → Type 0)
    → Agrees body f R → ((a : A) → Agrees body (g a) (S a)) → Agrees body (λ bytes. f bytes >>= λ x. g x.0 x.1) (λ p b q. (a : A) × (m : ℕ) × R p a m × S a m b q)
then_agrees {A} {B} body f g R S r s = record {
  reads = λ p b q le h.
      let one = r.reads p h.0 h.1 le h.2 in
      let two = (s h.0).reads h.1 b q one.0 h.3 in
      (two.0, ap (λ (y : Result (A × List ℕ) TableFault). y >>= λ x. g x.0 x.1) one.1 ∙ two.1);
  tells = λ p b rest le e.
      let x = bind_ok (f (drop p body)) (λ x. g x.0 x.1) (b, rest) e in
      let one = r.tells p x.0.0 x.0.1 le x.1 in
      let two = (s x.0.0).tells one.0 b rest one.2 (ap (λ l. g x.0.0 l) (sym one.3) ∙ x.2) in
      (two.0, (x.0.0, one.0, one.1, two.1), two.2, two.3);
}

pub done_agrees : {B : Type 0} (body : List ℕ) (v : B) → Agrees body (λ bytes. Ok (v, bytes)) (λ p b q. (b ≡ v) × (q ≡ p))
done_agrees {B} body v = record {
  reads = λ p b q le h. (omega (arith, le, h.1), ap (λ (x : B). done (x, drop p body)) (sym h.0) ∙ ap (λ (k : ℕ). done (b, drop k body)) (sym h.1));
  tells = λ p b rest le e.
      let same = is_ok (v, drop p body) (b, rest) e in
      (p, (sym (ap (λ (x : B × List ℕ). x.0) same), refl), le, sym (ap (λ (x : B × List ℕ). x.1) same));
}

pub like_agrees : {B : Type 0} (body : List ℕ) (f : List ℕ → Result (B × List ℕ) TableFault) (R S : ℕ → B → ℕ → Type 0) → Agrees body f R
    → ((p : ℕ) (b : B) (q : ℕ) → R p b q → S p b q) → ((p : ℕ) (b : B) (q : ℕ) → S p b q → R p b q) → Agrees body f S
like_agrees body f R S r to from = record {
  reads = λ p b q le h. r.reads p b q le (from p b q h);
  tells = λ p b rest le e. let one = r.tells p b rest le e in (one.0, to p b one.0 one.1, one.2, one.3);
}

pub cond_agrees : {B : Type 0} (body : List ℕ) (test : Bool) (f g : List ℕ → Result (B × List ℕ) TableFault) (R S : ℕ → B → ℕ → Type 0) → Agrees body f R → Agrees body g S
    → Agrees body (λ bytes. cond test (f bytes) (g bytes)) (λ p b q. (test ≡ true → R p b q) × (test ≡ false → S p b q))
cond_agrees body true f g R S r s = record {
  reads = λ p b q le h. r.reads p b q le (h.0 refl);
  tells = λ p b rest le e. let one = r.tells p b rest le e in (one.0, (λ _. one.1, λ other. absurd (false≢true (sym other))), one.2, one.3);
}
cond_agrees body false f g R S r s = record {
  reads = λ p b q le h. s.reads p b q le (h.1 refl);
  tells = λ p b rest le e. let one = s.tells p b rest le e in (one.0, (λ other. absurd (false≢true other), λ _. one.1), one.2, one.3);
}

pub guard_agrees : {B : Type 0} (body : List ℕ) (test : Bool) (fault : TableFault) (v : B) → Agrees body (λ bytes. cond test (Ok (v, bytes)) (Err fault)) (λ p b q. (test ≡ true) × (b ≡ v) × (q ≡ p))
guard_agrees body true fault v = record {
  reads = λ p b q le h. (done_agrees body v).reads p b q le (h.1, h.2);
  tells = λ p b rest le e. let one = (done_agrees body v).tells p b rest le e in (one.0, (refl, one.1.0, one.1.1), one.2, one.3);
}
guard_agrees body false fault v = record {
  reads = λ p b q le h. absurd (false≢true h.0);
  tells = λ p b rest le e. absurd (wrong (b, rest) fault e);
}
  where
    wrong : {C : Type 0} (x : C) (d : TableFault) → (let r : Result C TableFault = Err d in r) ≡ Ok x → ⊥
    wrong x d e = cc

-- ---- bytes and numbers

pub sized_agrees : {B : Type 0} (body : List ℕ) (n : ℕ) (view : List ℕ → B)
    → Agrees body (λ bytes. cond (ltb (length bytes) n) (Err Truncated) (Ok (view bytes, drop n bytes))) (λ p b q. (p + n ≤ length body) × (b ≡ view (drop p body)) × (q ≡ p + n))
sized_agrees {B} body n view = record {
  reads = λ p b q le h.
      let long : n ≤ length (drop p body) = omega (arith, length-drop p body, h.0) in
      (omega (arith, h.0, h.2), rw (le-ltb (length (drop p body)) n long, h.1, h.2, drops body p n) refl);
  tells = λ p b rest le e. elim (cases_lt (length (drop p body)) n) [
    | inl short ↦ absurd (wrong (b, rest) (rw (lt-ltb (length (drop p body)) n short) at e))
    | inr long ↦
        let same = is_ok (view (drop p body), drop n (drop p body)) (b, rest) (rw (le-ltb (length (drop p body)) n long) at e) in
        let fits : p + n ≤ length body = omega (arith, length-drop p body, long, le) in
        (p + n, (fits, sym (ap (λ (x : B × List ℕ). x.0) same), refl), fits, sym (ap (λ (x : B × List ℕ). x.1) same) ∙ drops body p n)
  ];
}
  where
    wrong : {C : Type 0} (x : C) → (let r : Result C TableFault = Err Truncated in r) ≡ Ok x → ⊥
    wrong x e = cc

pub taken_agrees : (body : List ℕ) (n : ℕ) → Agrees body (taken_at n) (AreBytes n body)
unfolding taken_at
taken_agrees body n = like_agrees body (taken_at n) (λ p b q. (p + n ≤ length body) × (b ≡ take n (drop p body)) × (q ≡ p + n)) (AreBytes n body) (sized_agrees body n (take n))
    (λ p b q h. record { within = h.0; are = h.1; next = h.2 }) (λ p b q h. (h.within, h.are, h.next))

pub word_agrees : (body : List ℕ) → Agrees body word_at (IsNumber 2 body)
unfolding word_at
word_agrees body = like_agrees body word_at (λ p b q. (p + 2 ≤ length body) × (b ≡ little_number 2 (drop p body)) × (q ≡ p + 2)) (IsNumber 2 body) (sized_agrees body 2 (little_number 2))
    (λ p b q h. record { within = h.0; is = h.1; next = h.2 }) (λ p b q h. (h.within, h.is, h.next))

pub number_agrees : (body : List ℕ) → Agrees body four_bytes_at (IsNumber 4 body)
unfolding four_bytes_at
number_agrees body = like_agrees body four_bytes_at (λ p b q. (p + 4 ≤ length body) × (b ≡ little_number 4 (drop p body)) × (q ≡ p + 4)) (IsNumber 4 body) (sized_agrees body 4 (little_number 4))
    (λ p b q h. record { within = h.0; is = h.1; next = h.2 }) (λ p b q h. (h.within, h.is, h.next))

first_byte : (b : ℕ) (rest : List ℕ) → byte_at (b ∷ rest) ≡ Ok (b, rest)
unfolding byte_at
first_byte b rest = refl

no_byte : byte_at [] ≡ Err Truncated
unfolding byte_at
no_byte = refl

pub byte_agrees : (body : List ℕ) → Agrees body byte_at (IsByte body)
byte_agrees body = record {
  reads = λ p b q le h.
      let more = drop_more body p 0 (omega (arith, h.within)) in
      (omega (arith, h.within, h.next), ap byte_at more ∙ first_byte (slice_index body p) (drop (p + 1) body) ∙ ap (λ (x : ℕ). done (x, drop (p + 1) body)) (sym h.is) ∙ ap (λ (k : ℕ). done (b, drop k body)) (sym h.next));
  tells = λ p b rest le e. elim (cases_lt p (length body)) [
    | inl lt ↦
        let more = drop_more body p 0 lt in
        let same = is_ok (slice_index body p, drop (p + 1) body) (b, rest) (sym (first_byte (slice_index body p) (drop (p + 1) body)) ∙ sym (ap byte_at more) ∙ e) in
        (p + 1, record { within = omega (arith, lt); is = sym (ap (λ (x : ℕ × List ℕ). x.0) same); next = refl }, omega (arith, lt), sym (ap (λ (x : ℕ × List ℕ). x.1) same))
    | inr ge ↦ absurd (wrong (b, rest) (sym no_byte ∙ sym (ap byte_at (drop_all p body ge)) ∙ e))
  ];
}
  where
    wrong : {C : Type 0} (x : C) → (let r : Result C TableFault = Err Truncated in r) ≡ Ok x → ⊥
    wrong x e = cc

-- ---- rises

pub raise_to_64 : (body : List ℕ) (p q : ℕ) → length body % 64 ≡ 0 → p ≤ length body → IsRaised 64 p q → (q ≤ length body) × (risen 64 (drop p body) ≡ drop q body)
raise_to_64 body p q even le h =
    let n : p + length (drop p body) % 64 ≡ q = omega (arith, length-drop p body, even, le, h.ordered, h.near, h.divides) in
    (omega (arith, length-drop p body, le, n), drops body p (length (drop p body) % 64) ∙ ap (λ k. drop k body) n)

pub raised_64 : (body : List ℕ) (p : ℕ) → length body % 64 ≡ 0 → p ≤ length body → IsRaised 64 p (p + length (drop p body) % 64)
raised_64 body p even le = record {
  ordered = omega arith;
  near = omega arith;
  divides = omega (arith, length-drop p body, even, le);
}

pub raise_to_2 : (body : List ℕ) (p q : ℕ) → length body % 64 ≡ 0 → p ≤ length body → IsRaised 2 p q → (q ≤ length body) × (risen 2 (drop p body) ≡ drop q body)
raise_to_2 body p q even le h =
    let n : p + length (drop p body) % 2 ≡ q = omega (arith, length-drop p body, even, le, h.ordered, h.near, h.divides) in
    (omega (arith, length-drop p body, le, n), drops body p (length (drop p body) % 2) ∙ ap (λ k. drop k body) n)

pub raised_2 : (body : List ℕ) (p : ℕ) → length body % 64 ≡ 0 → p ≤ length body → IsRaised 2 p (p + length (drop p body) % 2)
raised_2 body p even le = record {
  ordered = omega arith;
  near = omega arith;
  divides = omega (arith, length-drop p body, even, le);
}

-- ---- one part after the other

pub each_agrees : {A B : Type 0} (body : List ℕ) (step : A → List ℕ → Result (B × List ℕ) TableFault) (R : A → ℕ → B → ℕ → Type 0) → ((a : A) → Agrees body (step a) (R a)) → (xs : List A)
    → Agrees body (each_at step xs) (λ p bs q. Each R xs p bs q)
unfolding each_at
each_agrees {A} {B} body step R s [] =
    like_agrees body (each_at step []) (λ p b q. (b ≡ []) × (q ≡ p)) (λ p bs q. Each R [] p bs q) (done_agrees body []) to from
  where
    to : (p : ℕ) (b : List B) (q : ℕ) → (b ≡ []) × (q ≡ p) → Each R [] p b q
    to p [] q h = h.1
    to p (b ∷ bs) q h = absurd cc

    from : (p : ℕ) (b : List B) (q : ℕ) → Each R [] p b q → (b ≡ []) × (q ≡ p)
    from p [] q h = (refl, h)
    from p (b ∷ bs) q h = absurd h
each_agrees {A} {B} body step R s (a ∷ others) =
    like_agrees body (each_at step (a ∷ others))
    (λ p bs q. (b : B) × (m : ℕ) × R a p b m × ((rest : List B) × (n : ℕ) × Each R others m rest n × ((bs ≡ b ∷ rest) × (q ≡ n))))
    (λ p bs q. Each R (a ∷ others) p bs q)
    (then_agrees body (step a) (λ b bytes. each_at step others bytes >>= λ rest. Ok (b ∷ rest.0, rest.1)) (R a)
    (λ b m bs q. (rest : List B) × (n : ℕ) × Each R others m rest n × ((bs ≡ b ∷ rest) × (q ≡ n))) (s a)
    (λ b. then_agrees body (each_at step others) (λ rest bytes. Ok (b ∷ rest, bytes)) (λ p bs q. Each R others p bs q) (λ rest n bs q. (bs ≡ b ∷ rest) × (q ≡ n))
    (each_agrees body step R s others) (λ rest. done_agrees body (b ∷ rest))))
    to from
  where
    to : (p : ℕ) (bs : List B) (q : ℕ) → (b : B) × (m : ℕ) × R a p b m × ((rest : List B) × (n : ℕ) × Each R others m rest n × ((bs ≡ b ∷ rest) × (q ≡ n))) → Each R (a ∷ others) p bs q
    to p bs q h =
        let here : Each R (a ∷ others) p (h.0 ∷ h.3.0) q = (h.1, h.2, subst (λ k. Each R others h.1 h.3.0 k) (sym h.3.3.1) h.3.2) in
        subst (λ xs. Each R (a ∷ others) p xs q) (sym h.3.3.0) here

    from : (p : ℕ) (bs : List B) (q : ℕ) → Each R (a ∷ others) p bs q → (b : B) × (m : ℕ) × R a p b m × ((rest : List B) × (n : ℕ) × Each R others m rest n × ((bs ≡ b ∷ rest) × (q ≡ n)))
    from p [] q h = absurd h
    from p (b ∷ bs) q h = (b, h.0, h.1, (bs, q, h.2, (refl, refl)))

-- ---- one step in a chain

pub next : {B : Type 0} {body : List ℕ} {f : List ℕ → Result (B × List ℕ) TableFault} {R : ℕ → B → ℕ → Type 0} → Agrees body f R → (bytes : List ℕ) (p : ℕ) (x : B × List ℕ) → p ≤ length body → bytes ≡ drop p body → f bytes ≡ Ok x
    → (q : ℕ) × R p x.0 q × (q ≤ length body) × (x.1 ≡ drop q body)
next {f = f} agree bytes p x le is e = agree.tells p x.0 x.1 le (ap f (sym is) ∙ e)
