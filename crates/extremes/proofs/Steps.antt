-- One element more.
use Rattle.std.proofs.Common.{◌≡◌, ℕ, ◌+◌, Bool, true, false, cond, ◌||◌, sym, refl, ap, ◌∙◌, subst, inl, inr, arith}
use Rattle.std.proofs.lemmas.Bool.{cases_order, cases_Bool, or_cases, both_ways, cond_both}
use Rattle.extremes.specs.declared.lead.Lead.{Lead}
use Rattle.extremes.specs.Leads.{Leads}

module _ {E : Type 0} (most : E → E → Bool)
    (total : (a b : E) → (most a b || most b a) ≡ true)
    (transitive : (a b c : E) → most a b ≡ true → most b c ≡ true → most a c ≡ true) where
  other : (a b : E) → most a b ≡ false → most b a ≡ true
  other a b f = elim (or_cases (most a b) (most b a) (total a b)) [ inl t ↦ absurd (both_ways (most a b) f t) | inr t ↦ t ]

  reflexive : (a : E) → most a a ≡ true
  reflexive a = elim (or_cases (most a a) (most a a) (total a a)) [ inl t ↦ t | inr t ↦ t ]

  pub leads_more : (element : ℕ → E) (n : ℕ) (f here : Lead E) → here.element ≡ element n → here.index ≡ n
      → Leads most element n f → Leads most element (n + 1) (cond (most f.element here.element) f here)
  leads_more element n f here e i w =
      cond_both (most f.element here.element) f here (Leads most element (n + 1))
      (λ t. record {
        within = λ p. omega (arith, w.within p);
        shown = w.shown;
        lowest = λ j l. elim (cases_order j n) [
          | inl q ↦ subst (λ (x : E). most f.element x ≡ true) (e ∙ ap element (sym q)) t
          | inr o ↦ w.lowest j (elim o [ inl a ↦ a | inr b ↦ omega arith ])
        ];
        first = w.first;
      })
      (λ x. record {
        within = λ p. omega arith;
        shown = e ∙ ap element (sym i);
        lowest = λ j l. elim (cases_order j n) [
          | inl q ↦ subst (λ (y : E). most here.element y ≡ true) (e ∙ ap element (sym q)) (reflexive here.element)
          | inr o ↦ transitive here.element f.element (element j) (other f.element here.element x) (w.lowest j (elim o [ inl a ↦ a | inr b ↦ omega arith ]))
        ];
        first = λ j l. elim (cases_Bool (most (element j) here.element)) [
          | inr y ↦ y
          | inl t ↦ absurd (both_ways (most f.element here.element) x (transitive f.element (element j) here.element (w.lowest j (omega arith)) t))
        ];
      })

  -- the same, as a turn of a loop has it
  pub leads_turn : (element : ℕ → E) (start k : ℕ) (f : Lead E) (x : E) (r : Lead E) → x ≡ element (start + k)
      → r ≡ cond (most f.element x) f (record { element = x; index = start + k })
      → Leads most element (start + k) f → Leads most element (start + (k + 1)) r
  leads_turn element start k f x r e q w =
      let here : Lead E = record { element = x; index = start + k } in
      let next : start + k + 1 ≡ start + (k + 1) = omega arith in
      let more : Leads most element (start + k + 1) (cond (most f.element x) f here) = leads_more element (start + k) f here e refl w in
      subst (λ (m : ℕ). Leads most element m r) next (subst (λ (y : Lead E). Leads most element (start + k + 1) y) (sym q) more)
