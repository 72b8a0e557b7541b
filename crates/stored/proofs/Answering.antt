-- What the tests of loading answer, and what the bytes of saving are.
use Rattle.std.proofs.Common.{◌≡◌, ℕ, ◌+◌, ◌*◌, ◌^◌, ◌<◌, ◌≤◌, List, [], ◌∷◌, ◌++◌, length, get_or, take, drop, set, Ok, Err, Result, sym, ap, ◌∙◌, append-nil, append_assoc, add-one, arith, w8, Fits}
use Rattle.std.proofs.lemmas.List.{drop_all, drop_more, set_at, take_at}
use Rattle.forms.specs.declared.form.Form.{Form}
use Rattle.forms.specs.Parts.{terms_of}
use Rattle.forms.proofs.Whole.{size_some, size_most, sets_form, ascending_form, apart_form}
use Rattle.stored.specs.declared.faults.LoadFault.{LoadFault}
use Rattle.stored.specs.Packing.{spelled, packed}
use Rattle.stored.specs.Layout.{bytes_for, stored_bit, stored, accepted, count_bits, version}
use Rattle.stored.specs.Outcomes.{bytes_of, content_of, outcome, LoadedBack, ToldByBytes}
use Rattle.stored.proofs.Spelling.{packed_length}
use Rattle.stored.proofs.Undoing.{loaded_stored, stores_back}

-- ---- loading
small : (bytes : List ℕ) → ((i : ℕ) → Fits w8 (get_or bytes i 0)) → (j : ℕ) → get_or bytes j 0 < 2 ^ 8
small bytes h j = omega (arith, h j)

pub loaded_back : (r : Result Form LoadFault) (bytes : List ℕ) → ((i : ℕ) → Fits w8 (get_or bytes i 0)) → outcome r ≡ content_of bytes → LoadedBack r bytes
loaded_back (Ok f) bytes h e = stores_back count_bits version bytes (terms_of f) (small bytes h) (sym e)
loaded_back (Err x) bytes h e = tt

-- ---- saving
pub form_back : (f : Form) → content_of (bytes_of (terms_of f)) ≡ accepted (terms_of f)
form_back f = loaded_stored count_bits version (terms_of f) (omega arith) (size_some f) (size_most f) (sets_form f) (ascending_form f) (apart_form f)

pub form_same : (f g : Form) → bytes_of (terms_of f) ≡ bytes_of (terms_of g) → terms_of f ≡ terms_of g
form_same f g e =
    let p : accepted (terms_of f) ≡ accepted (terms_of g) = sym (form_back f) ∙ ap content_of e ∙ form_back g in
    cc

pub told_by_bytes : (f g : Form) → ToldByBytes (terms_of f) (terms_of g)
told_by_bytes f g = (form_same f g, ap bytes_of)

pub byte_more : (b : ℕ → ℕ) (old out : List ℕ) (i x : ℕ) → out ≡ packed b i ++ drop i old → i < length old → x ≡ spelled b (8 * i) 8
    → set out i x ≡ packed b (i + 1) ++ drop (i + 1) old
byte_more b old out i x e l q =
    let d : drop i old ≡ get_or old i 0 ∷ drop (i + 1) old = drop_more old i 0 l in
    ap (λ (y : List ℕ). set y i x) (e ∙ ap (λ (y : List ℕ). packed b i ++ y) d)
    ∙ set_at (packed b i) (get_or old i 0) (drop (i + 1) old) x i (packed_length b i)
    ∙ ap (λ (y : ℕ). packed b i ++ y ∷ drop (i + 1) old) q
    ∙ sym (append_assoc (packed b i) (spelled b (8 * i) 8 ∷ []) (drop (i + 1) old))
    ∙ ap (λ (k : ℕ). packed b k ++ drop (i + 1) old) (sym (add-one i))

-- all of them are written
pub bytes_all : (f old out : List ℕ) (i n : ℕ) → out ≡ packed (stored_bit count_bits version f) i ++ drop i old → n ≡ length (bytes_of f) → i ≡ n → length old ≤ n → out ≡ bytes_of f
unfolding stored
bytes_all f old out i n e q d l =
    let b : ℕ → ℕ = stored_bit count_bits version f in
    let m : i ≡ bytes_for count_bits (length f) = d ∙ q ∙ packed_length b (bytes_for count_bits (length f)) in
    e ∙ ap (λ (ys : List ℕ). packed b i ++ ys) (drop_all i old (omega arith)) ∙ append-nil (packed b i) ∙ ap (packed b) m

pub saved_back : (f : Form) (rest out : List ℕ) (n : ℕ) → n ≡ length (bytes_of (terms_of f)) → out ≡ bytes_of (terms_of f) ++ rest → content_of (take n out) ≡ accepted (terms_of f)
saved_back f rest out n e q = ap (λ (y : List ℕ). content_of (take n y)) q ∙ ap content_of (take_at (bytes_of (terms_of f)) rest n (sym e)) ∙ form_back f
