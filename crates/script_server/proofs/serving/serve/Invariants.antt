use Rattle.script_server.proofs.serving.serve.Given as goal

abbrev pub ghost-serve_script : goal.ghost-serve_script
ghost-serve_script g a = g.state
