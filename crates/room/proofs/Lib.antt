mod Needs
