use Rattle.std.proofs.Common.{ℕ, List, [], ◌∷◌, ◌≡◌, ◌∙◌, ap, map, subst, sym, w16}
use Rattle.std.specs.Prelude.{IfNone, IfSome}
use Rattle.std.proofs.Math.Facts.{to_z-of_z}
use Rattle.channel_spec.specs.Channels.{members_at}
use Rattle.voice_channel.specs.Channels.{PassesThrough}
use Rattle.voice_channel.proofs.Fed.{fed, fed_told, fed_untold, one_alone}
use Rattle.voice_channel.proofs.channels.Channels.feed_sample.Goals as goal

pub returns-in-len1-clause-told : goal.returns-in-len1-clause-told
returns-in-len1-clause-told g c =
    let members : List ℕ = c.members_of.result.now in
    let told = c.run_sample.result in
    let after = c.run_sample.new.host in
    let its : members ≡ members_at c.args.self.now.chained c.args.c =
    c.members_of.ensures ∙ ap (λ xs. members_at (map (λ m. m.items) xs) c.args.c) c.deref.ensures.0
    ∙ ap (λ s. members_at s.chained c.args.c) c.self.view_is in
    let one = sym (one_alone members c.in-len1.len_at_least c.in-len1.len_below) ∙ its in
    fed_told g.M.Ialg.law c.args.c c.args.x told c.args.self.now
    (record { host = after; chained = map (λ m. m.items) c.self.inside.channels.items }) c.requires.ready (ap (λ s. s.chained) c.self.view_is)
    (subst
    (λ h. IfSome told (λ y. PassesThrough g.M.Ialg.law (members_at c.args.self.now.chained c.args.c) (c.args.x ∷ []) (y ∷ []) h after))
    (ap (λ s. s.host) c.self.view_is)
    (subst (λ is. IfSome told (λ y. PassesThrough g.M.Ialg.law is (c.args.x ∷ []) (y ∷ []) c.self.inside.host after)) one
    (rw (to_z-of_z {w = w16} c.ranges.x) at c.run_sample.ensures.told)))

pub returns-in-len1-clause-machine : goal.returns-in-len1-clause-machine
returns-in-len1-clause-machine g c =
    let members : List ℕ = c.members_of.result.now in
    let told = c.run_sample.result in
    let after = c.run_sample.new.host in
    let out = c.run_sample.new.given.items in
    let its : members ≡ members_at c.args.self.now.chained c.args.c =
    c.members_of.ensures ∙ ap (λ xs. members_at (map (λ m. m.items) xs) c.args.c) c.deref.ensures.0
    ∙ ap (λ s. members_at s.chained c.args.c) c.self.view_is in
    let one = sym (one_alone members c.in-len1.len_at_least c.in-len1.len_below) ∙ its in
    fed_untold g.M.Ialg.law c.args.c c.args.x out told c.args.self.now
    (record { host = after; chained = map (λ m. m.items) c.self.inside.channels.items }) c.requires.ready (ap (λ s. s.chained) c.self.view_is)
    (subst
    (λ h. IfNone told (PassesThrough g.M.Ialg.law (members_at c.args.self.now.chained c.args.c) (c.args.x ∷ []) out h after))
    (ap (λ s. s.host) c.self.view_is)
    (subst (λ is. IfNone told (PassesThrough g.M.Ialg.law is (c.args.x ∷ []) out c.self.inside.host after)) one
    (rw (to_z-of_z {w = w16} c.ranges.x) at c.run_sample.ensures.passes)))

pub returns-in_default-clause-machine : goal.returns-in_default-clause-machine
returns-in_default-clause-machine g c =
    let its : c.members_of.result.now ≡ members_at c.args.self.now.chained c.args.c =
    c.members_of.ensures ∙ ap (λ xs. members_at (map (λ m. m.items) xs) c.args.c) c.deref.ensures.0
    ∙ ap (λ s. members_at s.chained c.args.c) c.self.view_is in
    fed g.M.Ialg.law c.args.c (c.args.x ∷ [])
    c.pass.new.out.items c.args.self.now (record { host = c.pass.new.host; chained = map (λ m. m.items) c.self.inside.channels.items }) c.requires.ready
    (ap (λ s. s.chained) c.self.view_is)
    (subst
    (λ h. PassesThrough g.M.Ialg.law (members_at c.args.self.now.chained c.args.c) (c.args.x ∷ []) c.pass.new.out.items h c.pass.new.host)
    (ap (λ s. s.host) c.self.view_is)
    (subst
    (λ is. PassesThrough g.M.Ialg.law is (c.args.x ∷ []) c.pass.new.out.items c.self.inside.host c.pass.new.host)
    its (rw (to_z-of_z {w = w16} c.ranges.x) at c.pass.ensures.passes)))
