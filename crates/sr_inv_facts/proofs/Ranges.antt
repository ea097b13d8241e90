-- What keys, puts and versions of a state that meets its ranges are in.
use Rattle.std.proofs.Common.{◌≡◌, ℕ, ◌<◌, true, ◌∷◌, Some, None, Option, option_map, unwrap_or, sym, refl, subst, arith}
use Rattle.std.specs.List.{AllByRecursion}
use Rattle.sr_base.specs.Key.{IsKey, KeyView}
use Rattle.sr_base.specs.Layout.{IsLayout, LayoutView}
use Rattle.sr_base.specs.declared.vip_word.Phase.{Phase}
use Rattle.sr_base.specs.declared.vip_word.Phase.TheVariants.{Steady, Recording, Holding, Transit}
use Rattle.sr_base.specs.declared.vip_word.VipWord.{VipWord}
use Rattle.sr_hash.specs.Uses.{is_place_of}
use Rattle.sr_inv_facts.proofs.Books.{found_key}
use Rattle.sr_inv_facts.proofs.Lists.{got_or}
use Rattle.sr_inv_facts.specs.InJobs.{AimHolds, IsFirst, PutHolds}
use Rattle.sr_inv_facts.specs.InShape.{BookFits, ControllerFits, EntryFits, OpenerFits, WordFits}
use Rattle.sr_machine.specs.Config.{Config}
use Rattle.sr_machine.specs.Deciding.{learned, learned_in, version_for, vip_at}
use Rattle.sr_machine.specs.Reads.{steady}
use Rattle.sr_machine.specs.declared.controller_view.ControllerView.{ControllerView}
use Rattle.sr_machine.specs.declared.held_opener.HeldOpener.{HeldOpener}
use Rattle.sr_machine.specs.declared.put.Aim.{Aim}
use Rattle.sr_machine.specs.declared.put.Put.{Put}
use Rattle.sr_shadow.specs.Book.{entry_for}
use Rattle.sr_shadow.specs.Entry.{is_of}
use Rattle.sr_shadow.specs.declared.entry.Entry.{Entry}
use Rattle.sr_update.proofs.Dues.{all_find}
use Rattle.sr_machine.specs.declared.put.Aim.TheVariants as aim

-- a key of the layout
pub record KeyFits (l : LayoutView) (key : KeyView) : Type 0 where
  pub is_key : IsKey key
  pub vip : key.vip < l.vips

pub record PutFits (l : LayoutView) (p : Put) : Type 0 where
  pub key : KeyFits l p.key
  pub place : is_place_of l.shape p.key p.place ≡ true

learned_in_below : (l : LayoutView) (w : VipWord) → WordFits l w → (p : Phase) → learned_in p w.cur w.next < l.shape.versions
learned_in_below l w f Steady = f.cur
learned_in_below l w f Recording = f.cur
learned_in_below l w f Holding = f.cur
learned_in_below l w f Transit = f.next

module _ (k : Config) (i : IsLayout k.layout) (c : ControllerView) (b : BookFits k.layout c.book) (h : ControllerFits k c) where
  pub entry_fits : (key : KeyView) (e : Entry) → entry_for key c.book.entries ≡ Some e → EntryFits k.layout e
  entry_fits key e q = all_find (EntryFits k.layout) (is_of key) c.book.entries e b.entries q

  pub entry_key : (key : KeyView) (e : Entry) → entry_for key c.book.entries ≡ Some e → KeyFits k.layout key
  entry_key key e q =
      let f = entry_fits key e q in
      subst (KeyFits k.layout) (sym (found_key key c.book.entries e q)) (record { is_key = f.key; vip = f.vip })

  pub opener_key : (o : HeldOpener) → IsFirst o c.held → KeyFits k.layout o.key
  opener_key o (rest, q) =
      let a : AllByRecursion (OpenerFits k.layout) (o ∷ rest) = subst (AllByRecursion (OpenerFits k.layout)) q h.held in
      record { is_key = a.0.key; vip = a.0.vip }

  aim_key : (p : Put) (a : Aim) → AimHolds c.book.entries c.held p a → KeyFits k.layout p.key
  aim_key p aim.Pending m = entry_key p.key m.0 m.1
  aim_key p (aim.Held o) m = subst (KeyFits k.layout) (sym m.1) (opener_key o m.0)
  aim_key p (aim.Move from planned) m = entry_key p.key m.0.0 m.0.1

  pub put_fits : (p : Put) → PutHolds k.layout.shape c.book.entries c.held p → PutFits k.layout p
  put_fits p m = record { key = aim_key p p.aim m.aim; place = m.own }

  pub word_fits : (vip : ℕ) → WordFits k.layout (vip_at c.vips vip)
  word_fits vip =
      got_or (WordFits k.layout) c.vips vip (steady 0) h.words (record { cur = omega (arith, i.versions.0); next = omega (arith, i.versions.0); fits = refl })

  pub learned_below : (vip : ℕ) → learned c.vips vip < k.layout.shape.versions
  learned_below vip = learned_in_below k.layout (vip_at c.vips vip) (word_fits vip) (vip_at c.vips vip).phase

  pub version_below : (key : KeyView) → version_for c.vips c.book.entries key < k.layout.shape.versions
  version_below key = at (entry_for key c.book.entries) refl
    where
      at : (o : Option Entry) → entry_for key c.book.entries ≡ o
          → unwrap_or (option_map (λ e. e.version) o) (learned c.vips key.vip) < k.layout.shape.versions
      at None q = learned_below key.vip
      at (Some e) q = (entry_fits key e q).version
